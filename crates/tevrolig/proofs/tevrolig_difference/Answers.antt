use Rattle.tevrolig.proofs.Numbered.{element_optional, stored, not_stored}
use Rattle.tevrolig.proofs.tevrolig_difference.Goals as goal

pub returns-then-difference-eq0 : goal.returns-then-difference-eq0
returns-then-difference-eq0 c =
    let n = c.of_element-difference.ensures in let both = stored element_optional n.number_value c.difference.ensures n.word_value c.if-difference-eq0.true _ in record { value = both.0; element_after = both.1 }

pub returns-else-difference-eq0 : goal.returns-else-difference-eq0
returns-else-difference-eq0 c = let both = not_stored element_optional c.of_element-difference.ensures.number_value c.difference.ensures c.if-difference-eq0.false _ in record { value = both.0; element_after = both.1 }
