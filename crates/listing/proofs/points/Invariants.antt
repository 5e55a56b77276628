use Prim.Native.Nat.{◌+◌, ◌-◌, ◌*◌, ◌/◌, ◌≤◌}
use mathlib.Core.List.{◌++◌, flat_map}
use mathlib.Core.Path.{◌≡◌}
use lib.ListN.{length, take}
use Rattle.listing.specs.Listing.{point_text}
use Rattle.listing.specs.Table.{points_from}
use Rattle.listing.proofs.points.Given as goal

abbrev pub invariant-loop-j : goal.invariant-loop-j
invariant-loop-j l =
    let count = length l.pw / l.scale in
    (l.place + 11 * (count - l.j) ≤ l.at + 11 * count) × (take l.place l.out ++ flat_map point_text (points_from l.pw l.scale l.j (count - l.j)) ≡ take l.at l.initial.out ++ flat_map point_text (points_from l.pw l.scale 0 count))
