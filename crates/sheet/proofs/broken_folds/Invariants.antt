use Prim.Native.Nat.{◌-◌}
use Rattle.sheet.proofs.FoldLaws.{Tested}
use Rattle.sheet.proofs.broken_folds.Given as goal

abbrev pub invariant-loop-i : goal.invariant-loop-i
invariant-loop-i l = Tested l.w l.d l.i
