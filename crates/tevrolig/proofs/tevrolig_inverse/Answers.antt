use Rattle.tevrolig.proofs.Numbered.{inverse_optional, stored, not_stored}
use Rattle.tevrolig.proofs.tevrolig_inverse.Goals as goal

pub returns-then-inverse-eq0 : goal.returns-then-inverse-eq0
returns-then-inverse-eq0 c =
    let n = c.of_inverse-inverse.ensures in let both = stored inverse_optional n.number_value c.inverse.ensures n.word_value c.if-inverse-eq0.true _ in record { value = both.0; element_after = both.1 }

pub returns-else-inverse-eq0 : goal.returns-else-inverse-eq0
returns-else-inverse-eq0 c = let both = not_stored inverse_optional c.of_inverse-inverse.ensures.number_value c.inverse.ensures c.if-inverse-eq0.false _ in record { value = both.0; element_after = both.1 }
