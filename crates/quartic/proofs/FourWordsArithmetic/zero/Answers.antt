use Rattle.definition.specs.Field.{quartic, embed, prime_field}
use Rattle.quartic.proofs.FourWordsArithmetic.zero.Goals as goal

pub returns : goal.returns
unfolding quartic embed prime_field
returns c = c.number.ensures
