use Prim.Native.Nat.{ℕ}
use mathlib.Core.Path.{◌≡◌}
use mathlib.Core.Bool.{Bool}
use mathlib.Core.List.{List}
use lib.ListN.{drop}
use Rattle.definition.specs.Lists.{first_true}
use Rattle.spelling.specs.ByField.{elements_at, field_at, points_at}
use Rattle.quartic.specs.declared.Four.{Four}
use Rattle.elements.specs.Meaning.{value_at}
use Rattle.fractions.specs.declared.Oracle.{Oracle}
use Rattle.rounds.specs.RoundLaws.{differs_in}
use Rattle.rounds.specs.SamplesIn.{numbered, sample_by}
use Rattle.comparison.proofs.compare_by_roots.Given as goal

-- `comparison::compare_by_roots` meets its contract: the first difference from number i on is the first of all. Assumes nothing.
-- does the final polynomial differ from the sample at index j, number i?
abbrev pub differs_at : (field : ℕ) → List ℕ → List ℕ → Oracle → ℕ → Four → List ℕ → ℕ → ℕ → Bool
differs_at field pw roots oracle k r coefficients i j =
    differs_in (field_at field) (elements_at field coefficients) (sample_by (field_at field) (points_at field pw) (elements_at field roots) oracle k (value_at field r) i j)

abbrev pub invariant-loop-i : goal.invariant-loop-i
invariant-loop-i l =
    first_true l.i (numbered (differs_at l.field l.pw l.roots l.oracle l.k l.r l.coefficients) l.i (drop l.i l.finals)) ≡ first_true 0 (numbered (differs_at l.field l.pw l.roots l.oracle l.k l.r l.coefficients) 0 l.finals)
