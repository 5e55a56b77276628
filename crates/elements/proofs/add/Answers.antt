use native.Mathlib.Omega.{arith}
use Rattle.elements.proofs.Cases.{binary_three, binary_one}
use Rattle.elements.proofs.add.Goals as goal

pub returns-then-field-eq3 : goal.returns-then-field-eq3
returns-then-field-eq3 c =
    let a = c.args in
    binary_three (λ A F. F.◌⊕◌) a.field a.x a.y c.add.result (omega arith) c.add.ensures

pub returns : goal.returns
returns c =
    let a = c.args in
    binary_one (λ A F. F.◌⊕◌) a.field a.x a.y c.number.result (omega arith) c.number.ensures.a_value c.add-2.ensures
