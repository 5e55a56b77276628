use Rattle.definition.specs.Field.{prime_of, field_of, quartic}
use Rattle.algebra.specs.Quartic.{quad_path}
use Rattle.quartic.proofs.add.Goals as goal

pub returns : goal.returns
unfolding quartic field_of prime_of
returns c = quad_path c.add.ensures c.add-2.ensures c.add-3.ensures c.add-4.ensures
