-- From round to round: the elements before round 1, and those that a round leaves, are those of the definition's next function.
use Prim.Native.Nat.{ℕ, zero, suc, ◌*◌, ◌^◌, ◌<◌}
use Rattle.std.specs.Prelude.{◌≡◌, List, length, get_or}
use Rattle.std.proofs.Common.{◌∙◌, not-suc-le-zero}
use Rattle.definition.specs.Field.{Field, reciprocal}
use Rattle.definition.specs.Sheet.{Level, shift_count}
use Rattle.definition.specs.Polynomial.{Sample, corrected_value}
use Rattle.definition.specs.Transcript.{Round}
use Rattle.definition.specs.Deciding.{table_function, next_function}
use Rattle.lists.specs.Correcting.{CorrectingOver}
use Rattle.fractions.specs.declared.Oracle.{Oracle}
use Rattle.folds.specs.PointsIn.{point_in, point_in_lem}
use Rattle.domain.specs.Powers.{PowersOver}
use Rattle.fractions.specs.Values.{corrected_in, value_of, value_in, Fits, point_room}
use Rattle.rounds.specs.RoundLaws.{RepresentsOver}

-- ---- before round 1 there are no samples, and the table itself is the function

module _ {A : Type 0} (F : Field A) (ω : A) where
  infixl 65 ◌⊖◌
  infixl 70 ◌⊗◌
  open F use {𝟘, ◌⊖◌, ◌⊗◌}

  pub values_first : (b : Level) (pw table ac vg : List A) (oracle : Oracle) (m : ℕ) → oracle.words ≡ 0 → value_in F pw table ac vg oracle m ≡ (table_function F ω b table).value m
  unfolding value_in value_of table_function
  values_first b pw table ac vg oracle m e = rw e

  pub represents_first : (b : Level) (pw table ac vg : List A) (oracle : Oracle) (k : ℕ) → PowersOver F ω pw → oracle.scale ≡ 2 ^ b.number →
      oracle.step ≡ shift_count b → k ≡ b.fold → oracle.words ≡ 0 → RepresentsOver F ω b (table_function F ω b table).value pw table ac vg oracle k
  represents_first b pw table ac vg oracle k w scaled spaced folded e = record {
    powers = w;
    scale = scaled;
    step = spaced;
    fold = folded;
    values = λ m l. values_first b pw table ac vg oracle m e;
  }

  -- ---- after a round

  -- the value by the coefficients is the definition's corrected value
  value_next : (n : ℕ) (g : List (Sample A)) (ac vg : List A) (c x y : A) → 0 < n → CorrectingOver F g c n ac vg → value_of F n ac vg x y ≡ corrected_value F g c x y
  unfolding value_of corrected_in corrected_value
  value_next zero g ac vg c x y h t = absurd (not-suc-le-zero h)
  value_next (suc n) g ac vg c x y h t = λ i. (y ⊖ t.value x i) ⊗ reciprocal F (t.vanish x i) ⊗ t.growth x i

  module _ (ρ : Round A) (pw ac vg : List A) (oracle : Oracle) {g : List (Sample A)} (some : 0 < oracle.words)
      (given : CorrectingOver F g ρ.coins.combination oracle.words ac vg) (w : PowersOver F ω pw) (scaled : oracle.scale ≡ 2 ^ ρ.coins.level.number) where
    pub values_next : (m : ℕ) → oracle.scale * m < length pw → value_in F pw ρ.table ac vg oracle m ≡ (next_function F ω g ρ).value m
    unfolding value_in next_function
    values_next m l =
        value_next oracle.words g ac vg ρ.coins.combination (point_in 𝟘 pw oracle.scale m) (get_or ρ.table m 𝟘) some given
        ∙ (λ i. corrected_value F g ρ.coins.combination (point_in_lem F w ρ.coins.level scaled m l i) (get_or ρ.table m 𝟘))

    pub represents_next : (k : ℕ) → oracle.step ≡ shift_count ρ.coins.level → k ≡ ρ.coins.level.fold → Fits (length pw) (length ρ.table) oracle k →
        RepresentsOver F ω ρ.coins.level (next_function F ω g ρ).value pw ρ.table ac vg oracle k
    represents_next k spaced folded fits = record {
      powers = w;
      scale = scaled;
      step = spaced;
      fold = folded;
      values = λ m l. values_next m (point_room fits m l);
    }
