use Rattle.definition.specs.Field.{prime_of, reduced}
use Rattle.algebra.specs.Quartic.{quad_path}
use Rattle.field3.proofs.reduce.Goals as goal

pub returns : goal.returns
unfolding reduced prime_of
returns c = quad_path c.reduce.ensures c.reduce-2.ensures c.reduce-3.ensures c.reduce-4.ensures
