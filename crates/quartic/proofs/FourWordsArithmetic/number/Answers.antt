use Rattle.std.proofs.Common.{refl}
use Rattle.definition.specs.Field.{embed, prime_field}
use Rattle.quartic.proofs.FourWordsArithmetic.number.Goals as goal

pub returns : goal.returns
unfolding embed prime_field
returns c = refl
