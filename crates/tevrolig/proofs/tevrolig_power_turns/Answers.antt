use Rattle.tevrolig.proofs.Numbered.{power_optional, turns_optional, stored, not_stored}
use Rattle.tevrolig.proofs.tevrolig_power_turns.Goals as goal

pub returns-then-raised-eq0 : goal.returns-then-raised-eq0
returns-then-raised-eq0 c =
    let n = c.of_power-raised.ensures in
    let d = c.power_turns.ensures in
    let p = stored power_optional n.number_value d n.power_value c.if-raised-eq0.true _ in record { value = p.0; element_after = p.1; turns_after = (stored turns_optional n.number_value d n.turns_value c.if-raised-eq0.true _).1 }

pub returns-else-raised-eq0 : goal.returns-else-raised-eq0
returns-else-raised-eq0 c =
    let n = c.of_power-raised.ensures.number_value in
    let d = c.power_turns.ensures in
    let p = not_stored power_optional n d c.if-raised-eq0.false _ in record { value = p.0; element_after = p.1; turns_after = (not_stored turns_optional n d c.if-raised-eq0.false _).1 }
