use native.Mathlib.Omega.{arith}
use Rattle.elements.proofs.Cases.{count_three, count_one}
use Rattle.elements.proofs.count.Goals as goal

pub returns-then-field-eq3 : goal.returns-then-field-eq3
returns-then-field-eq3 c =
    let a = c.args in
    count_three a.field a.w.now (omega arith) c.count.ensures

pub returns : goal.returns
returns c =
    let a = c.args in
    count_one a.field a.w.now (omega arith)
