use native.Mathlib.Omega.{arith}
use Rattle.field.proofs.ByNumber.{known, unknown}
use Rattle.field.proofs.answer.Goals as goal

-- `field::answer` meets its contract: the test of the code is that of the definition. Assumes nothing.
pub returns-then-field-lt3 : goal.returns-then-field-lt3
returns-then-field-lt3 c =
    let a = c.args in
    known a.field a.x (omega arith)

pub returns-else-field-lt3 : goal.returns-else-field-lt3
returns-else-field-lt3 c =
    let a = c.args in
    unknown a.field a.x (omega arith)
