use Prim.Native.Nat.{◌+◌, ◌-◌, ◌≤◌}
use mathlib.Core.Path.{◌≡◌}
use mathlib.Core.List.{map}
use lib.ListN.{length, drop}
use Rattle.spelling.specs.ByField.{field_at, elements_at}
use Rattle.distinct.specs.Points.{keep_points}
use Rattle.distinct.proofs.keep_all.Given as goal

abbrev pub invariant-loop-i : goal.invariant-loop-i
invariant-loop-i l =
    (l.at ≤ l.from)
    × ((l.from ≤ l.at + (length (elements_at l.field l.points) - l.i))
    × (drop l.at (elements_at l.field l.xs) ≡ keep_points (field_at l.field).equal (map (λ x. x) (drop l.i (elements_at l.field l.points))) (drop l.from (elements_at l.field l.initial.xs))))
