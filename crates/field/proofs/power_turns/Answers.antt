use native.Mathlib.Omega.{arith}
use Rattle.field.proofs.ByNumber.{power_turns_is, power_turns_unknown}
use Rattle.field.proofs.power_turns.Goals as goal

pub returns-then-field-gt2 : goal.returns-then-field-gt2
returns-then-field-gt2 c = let a = c.args in power_turns_unknown a.field a.a a.exponent (omega arith)

pub returns-else-field-gt2 : goal.returns-else-field-gt2
returns-else-field-gt2 c =
    let a = c.args in
    power_turns_is a.field a.a a.exponent (omega arith) c.pow_turns-powered.ensures.value_value c.pow_turns-powered.ensures.turns_value
