use native.Mathlib.Omega.{arith}
use Rattle.registers.proofs.Places.{fold_of_four, fold_of_one}
use Rattle.registers.proofs.with_fold.Goals as goal

pub returns-then-field-eq3 : goal.returns-then-field-eq3
returns-then-field-eq3 c =
    let a = c.args in
    fold_of_four a.field a.folds a.at a.fold (omega arith) c.requires (omega arith)

pub returns-else-field-eq3 : goal.returns-else-field-eq3
returns-else-field-eq3 c =
    let a = c.args in
    fold_of_one a.field a.folds a.at a.fold (omega arith) c.requires (omega arith)
