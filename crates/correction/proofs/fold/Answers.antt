use native.Mathlib.Omega.{arith}
use Rattle.correction.proofs.Cases.{fold_asked_three, fold_asked_one, fold_three, fold_one}
use Rattle.correction.proofs.fold.Goals as goal

-- `correction::fold` meets its contract. Assumes nothing.
pub fold_in-requires : goal.fold_in-requires
fold_in-requires c =
    let a = c.args in
    fold_asked_three a.field a.k a.f.now a.out.now (omega arith) c.requires

pub fold_in-requires-else-field-eq3 : goal.fold_in-requires-else-field-eq3
fold_in-requires-else-field-eq3 c =
    let a = c.args in
    fold_asked_one a.field a.k a.f.now a.out.now (omega arith) c.requires

pub returns-then-field-eq3 : goal.returns-then-field-eq3
returns-then-field-eq3 c =
    let a = c.args in
    let t = c.fold_in in
    fold_three a.field a.k a.f.now a.out.now a.r t.new.out (omega arith) t.ensures

pub returns-else-field-eq3 : goal.returns-else-field-eq3
returns-else-field-eq3 c =
    let a = c.args in
    let t = c.fold_in-else-field-eq3 in
    fold_one a.field a.k a.f.now a.out.now a.r t.new.out (omega arith) t.ensures
