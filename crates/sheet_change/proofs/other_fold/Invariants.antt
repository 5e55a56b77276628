use Prim.Native.Nat.{◌+◌, ◌-◌, ◌≤◌}
use mathlib.Core.Path.{◌≡◌}
use Rattle.sheet_change.proofs.Folds.{folds_from}
use Rattle.sheet_change.proofs.other_fold.Given as goal

abbrev pub invariant-loop-i : goal.invariant-loop-i
invariant-loop-i l = folds_from l.w l.i ≡ folds_from l.w 1
