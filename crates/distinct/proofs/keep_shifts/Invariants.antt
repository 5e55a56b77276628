use Prim.Native.Nat.{◌+◌, ◌-◌, ◌≤◌}
use mathlib.Core.Path.{◌≡◌}
use mathlib.Core.List.{[], map}
use lib.ListN.{length, drop}
use Rattle.spelling.specs.ByField.{field_at, elements_at}
use Rattle.distinct.specs.Points.{keep_points, shift_at}
use Rattle.distinct.proofs.keep_shifts.Given as goal

abbrev pub invariant-loop-i : goal.invariant-loop-i
invariant-loop-i l =
    (l.at ≤ length (elements_at l.field l.initial.xs))
    × ((length (elements_at l.field l.initial.xs) ≤ l.at + (length l.shifts - l.i))
    × (drop l.at (elements_at l.field l.xs) ≡ keep_points (field_at l.field).equal (map (shift_at l.field l.pw l.scale l.k) (drop l.i l.shifts)) []))
