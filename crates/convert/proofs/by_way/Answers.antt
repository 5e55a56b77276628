use Rattle.convert.specs.Ways.{to_one, to_two}
use Rattle.convert.proofs.by_way.Goals as goal

pub returns-in-One : goal.returns-in-One
returns-in-One c = to_one _ c.in-One.is c.backward.ensures

pub returns-in-Two : goal.returns-in-Two
returns-in-Two c = to_two _ c.in-Two.is c.forward.ensures
