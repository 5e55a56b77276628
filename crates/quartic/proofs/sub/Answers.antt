use Rattle.definition.specs.Field.{prime_of, field_of, quartic}
use Rattle.algebra.specs.Quartic.{quad_path}
use Rattle.quartic.proofs.sub.Goals as goal

pub returns : goal.returns
unfolding quartic field_of prime_of
returns c = quad_path c.sub.ensures c.sub-2.ensures c.sub-3.ensures c.sub-4.ensures
