use native.Mathlib.Omega.{arith}
use Rattle.elements.proofs.Cases.{same_three, same_one}
use Rattle.elements.proofs.same.Goals as goal

pub returns-then-field-eq3 : goal.returns-then-field-eq3
returns-then-field-eq3 c =
    let a = c.args in
    same_three a.field a.x a.y (omega arith) c.same.ensures

pub returns : goal.returns
returns c =
    let a = c.args in
    same_one a.field a.x a.y (omega arith)
