use native.Mathlib.Omega.{arith}
use Rattle.correction.proofs.Cases.{product_asked_three, product_asked_one, product_three, product_one}
use Rattle.correction.proofs.multiplied.Goals as goal

-- `correction::multiplied` meets its contract. Assumes nothing.
pub correct-requires : goal.correct-requires
correct-requires c =
    let a = c.args in
    let r = product_asked_three a.field a.e a.q.now a.out.now (omega arith) c.requires in
    (r.0, r.1.0)

pub correct-requires-else-field-eq3 : goal.correct-requires-else-field-eq3
correct-requires-else-field-eq3 c =
    let a = c.args in
    let r = product_asked_one a.field a.e a.q.now a.out.now (omega arith) c.requires in
    (r.0, r.1.0)

pub returns-then-field-eq3 : goal.returns-then-field-eq3
returns-then-field-eq3 c =
    let a = c.args in
    let t = c.correct in
    product_three a.field a.e a.q.now a.out.now a.c t.new.out (omega arith) t.ensures

pub returns-else-field-eq3 : goal.returns-else-field-eq3
returns-else-field-eq3 c =
    let a = c.args in
    let t = c.correct-else-field-eq3 in
    product_one a.field a.e a.q.now a.out.now a.c t.new.out (omega arith) t.ensures
