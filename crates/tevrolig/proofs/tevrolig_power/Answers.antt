use Rattle.tevrolig.proofs.Numbered.{element_optional, stored, not_stored}
use Rattle.tevrolig.proofs.tevrolig_power.Goals as goal

pub returns-then-power-eq0 : goal.returns-then-power-eq0
returns-then-power-eq0 c =
    let n = c.of_element-power.ensures in let both = stored element_optional n.number_value c.power.ensures n.word_value c.if-power-eq0.true _ in record { value = both.0; element_after = both.1 }

pub returns-else-power-eq0 : goal.returns-else-power-eq0
returns-else-power-eq0 c = let both = not_stored element_optional c.of_element-power.ensures.number_value c.power.ensures c.if-power-eq0.false _ in record { value = both.0; element_after = both.1 }
