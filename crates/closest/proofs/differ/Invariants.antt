use Prim.Native.Nat.{◌+◌, ◌≤◌}
use mathlib.Core.Path.{◌≡◌}
use lib.ListN.{length}
use Rattle.spelling.specs.ByField.{elements_at, field_at}
use Rattle.closest.proofs.Counting.{further}
use Rattle.closest.proofs.differ.Given as goal

abbrev pub invariant-loop-i : goal.invariant-loop-i
invariant-loop-i l = (l.count + l.i ≤ length (elements_at l.field l.xs)) × (l.count ≡ further (field_at l.field) (elements_at l.field l.xs) (elements_at l.field l.ys) l.i)
