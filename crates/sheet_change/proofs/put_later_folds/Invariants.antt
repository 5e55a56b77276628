use Prim.Native.Nat.{◌-◌, ◌≤◌}
use mathlib.Core.Path.{◌≡◌}
use lib.ListN.{length, take}
use Rattle.list_laws.specs.Overwriting.{overwrite}
use Rattle.sheet_change.specs.Laid.{later_folds}
use Rattle.sheet_change.proofs.put_later_folds.Given as goal

abbrev pub invariant-loop-j : goal.invariant-loop-j
invariant-loop-j l = l.words ≡ overwrite l.initial.words 12 (take l.j (later_folds l.rounds l.k))
