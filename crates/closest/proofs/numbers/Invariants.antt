use Prim.Native.Nat.{◌≤◌}
use Rattle.spelling.specs.ByField.{elements_at, field_at}
use Rattle.closest.proofs.Listing.{Listed}
use Rattle.closest.proofs.numbers.Given as goal

abbrev pub invariant-loop-i : goal.invariant-loop-i
invariant-loop-i l = (l.place ≤ l.i) × Listed (field_at l.field) (elements_at l.field l.xs) (elements_at l.field l.ys) l.initial.out l.out l.place l.i
