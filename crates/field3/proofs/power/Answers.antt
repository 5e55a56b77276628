use Rattle.definition.specs.Field.{power_turns3}
use Rattle.field3.proofs.power.Goals as goal

pub returns : goal.returns
unfolding power_turns3
returns c = c.power_turns-p.ensures.power_value
