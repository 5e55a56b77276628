use Rattle.tevrolig.proofs.Numbered.{element_optional, stored, not_stored}
use Rattle.tevrolig.proofs.tevrolig_sum.Goals as goal

pub returns-then-sum-eq0 : goal.returns-then-sum-eq0
returns-then-sum-eq0 c =
    let n = c.of_element-sum.ensures in let both = stored element_optional n.number_value c.sum.ensures n.word_value c.if-sum-eq0.true _ in record { value = both.0; element_after = both.1 }

pub returns-else-sum-eq0 : goal.returns-else-sum-eq0
returns-else-sum-eq0 c = let both = not_stored element_optional c.of_element-sum.ensures.number_value c.sum.ensures c.if-sum-eq0.false _ in record { value = both.0; element_after = both.1 }
