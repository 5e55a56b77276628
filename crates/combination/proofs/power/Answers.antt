use native.Mathlib.Omega.{arith}
use Rattle.combination.proofs.Cases.{power_three, power_one}
use Rattle.combination.proofs.power.Goals as goal

pub returns-then-field-eq3 : goal.returns-then-field-eq3
returns-then-field-eq3 c =
    let a = c.args in
    power_three a.field a.x c.pow_turns-powered.result.value a.e (omega arith) c.pow_turns-powered.ensures.value_value

pub returns : goal.returns
returns c =
    let a = c.args in
    power_one a.field a.x c.number.result a.e (omega arith) c.number.ensures.a_value c.pow.ensures
