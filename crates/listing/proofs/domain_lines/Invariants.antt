use Prim.Native.Nat.{◌+◌, ◌-◌, ◌*◌, ◌/◌, ◌^◌, ◌≤◌}
use mathlib.Core.List.{◌++◌}
use mathlib.Core.Path.{◌≡◌}
use lib.ListN.{length, take}
use Rattle.listing.specs.Table.{lines_from}
use Rattle.listing.proofs.domain_lines.Given as goal

abbrev pub invariant-loop-i : goal.invariant-loop-i
invariant-loop-i l =
    (l.scale ≡ 2 ^ l.i) × ((l.place + 29 * (6 - l.i) + 22 * (length l.pw / l.scale) ≤ 90302) × (take l.place l.out ++ lines_from l.pw l.i (l.rounds + 1 - l.i) ≡ take l.at l.initial.out ++ lines_from l.pw 0 (l.rounds + 1)))
