use Rattle.std.proofs.Common.{◌≡◌, List, ◌++◌, ◌+◌, ◌-◌, ◌≤◌, length, drop}
use Rattle.std.proofs.Math.Option.{some}
use Rattle.definition.specs.Polynomial.{Sample, pair}
use Rattle.spelling.specs.ByField.{ElementOf, field_at, elements_at}
use Rattle.samples.specs.Samples.{distinct_or_clash}
use Rattle.samples.proofs.push_all.Given as goal

abbrev pub invariant-loop-i : goal.invariant-loop-i
invariant-loop-i l =
    (l.i ≤ l.k)
    × ((l.k ≤ l.from)
    × ((l.from ≤ l.k + (length (elements_at l.field l.xs) - l.i))
    × ((ps : List (Sample (ElementOf l.field))) → some (pair (drop l.from (elements_at l.field l.initial.px)) (drop l.from (elements_at l.field l.initial.py))) ≡ distinct_or_clash (field_at l.field) ps →
    some (pair (drop l.k (elements_at l.field l.px)) (drop l.k (elements_at l.field l.py))) ≡ distinct_or_clash (field_at l.field) (pair (drop l.i (elements_at l.field l.xs)) (drop l.i (elements_at l.field l.ys)) ++ ps))))
