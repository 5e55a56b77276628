use Prim.Native.Nat.{ℕ, ◌+◌, ◌-◌, ◌≤◌}
use mathlib.Core.Path.{◌≡◌}
use mathlib.Core.List.{List}
use mathlib.Core.Option.{some}
use lib.ListN.{length, drop}
use Rattle.definition.specs.Polynomial.{Sample, pair}
use Rattle.spelling.specs.ByField.{ElementOf, elements_at, field_at, points_at}
use Rattle.elements.specs.Meaning.{value_at}
use Rattle.quartic.specs.declared.Four.{Four}
use Rattle.fractions.specs.declared.Oracle.{Oracle}
use Rattle.samples.specs.Samples.{distinct_or_clash}
use Rattle.rounds.specs.SamplesIn.{numbered, sample_by}
use Rattle.rounds.proofs.gather_by_roots.Given as goal

-- `rounds::gather_by_roots` meets its contract: the samples of the indices from number i on are put, and then those of the out coins. Assumes nothing.
-- the sample at index j, number i
abbrev pub sample_at : (field : ℕ) → List ℕ → List ℕ → Oracle → ℕ → Four → ℕ → ℕ → Sample (ElementOf field)
sample_at field pw roots oracle k r = sample_by (field_at field) (points_at field pw) (elements_at field roots) oracle k (value_at field r)

abbrev pub invariant-loop-i : goal.invariant-loop-i
invariant-loop-i l =
    (l.i ≤ length l.shifts)
    × ((l.from ≤ length (elements_at l.field l.initial.px))
    × ((length (elements_at l.field l.initial.px) ≤ l.from + (length l.shifts - l.i))
    × ((length l.px ≡ length l.initial.px)
    × ((length l.py ≡ length l.initial.py)
    × ((some (pair (drop l.from (elements_at l.field l.px)) (drop l.from (elements_at l.field l.py))) ≡ distinct_or_clash (field_at l.field) (numbered (sample_at l.field l.pw l.roots l.oracle l.k l.r) l.i (drop l.i l.shifts)))
    × (length l.values ≡ length l.initial.values))))))
