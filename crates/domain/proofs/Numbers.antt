-- Whether an element is a number of the prime field, as the code tests it. Assumes nothing.
use Prim.Native.Nat.{ℕ, suc, ◌+◌, ◌-◌, ◌≤◌}
use native.Mathlib.Omega.{arith}
use mathlib.Core.Path.{◌≡◌, refl, sym, ap, subst, ◌∙◌}
use mathlib.Core.Bool.{Bool, true, false, ◌&&◌}
use mathlib.Core.List.{List, [], ◌∷◌}
use lib.Dec.{eqb}
use lib.ListN.{length, get_or, take, drop}
use lib.Pointwise.{pointwise}
use Rattle.std.proofs.Common.{drop-cons}
use Rattle.definition.specs.Field.{Spelling, four, spelling_of, word_count}
use Rattle.widths.specs.ByField.{spelling_other, spelling_three}
use Rattle.domain.specs.Elements.{number_at}

regrouped : (p q r : Bool) → (p && (q && (r && true))) ≡ ((p && q) && r)
regrouped true true true = refl
regrouped true true false = refl
regrouped true false r = refl
regrouped false q r = refl

module _ (w : List ℕ) (i : ℕ) where
  pub three_zeros : i + 4 ≤ length w → pointwise eqb (take (i + 4 - (i + 1)) (drop (i + 1) w)) (0 ∷ 0 ∷ 0 ∷ []) ≡ number_at four w i
  unfolding number_at
  three_zeros l =
      let three : i + 4 - (i + 1) ≡ 3 = omega arith in
      let c : suc (i + 1) ≡ i + 2 = omega arith in
      let d : suc (i + 2) ≡ i + 3 = omega arith in
      rw (three, drop-cons w (i + 1) 0 (omega arith), drop-cons w (suc (i + 1)) 0 (omega arith), drop-cons w (suc (suc (i + 1))) 0 (omega arith), c, d)
      (regrouped (eqb (get_or w (i + 1) 0) 0) (eqb (get_or w (i + 2) 0) 0) (eqb (get_or w (i + 3) 0) 0))

  module _ (field : ℕ) where
    pub four_there : field ≡ 3 → i + word_count (spelling_of field) 1 ≤ length w → i + 4 ≤ length w
    unfolding word_count
    four_there e h = subst (λ (σ : Spelling). i + word_count σ 1 ≤ length w) (spelling_three field e) h

    pub of_four : {r : Bool} → field ≡ 3 → r ≡ number_at four w i → r ≡ number_at (spelling_of field) w i
    of_four e h = h ∙ ap (λ (σ : Spelling). number_at σ w i) (sym (spelling_three field e))

    pub of_one : (field ≡ 3 → ⊥) → true ≡ number_at (spelling_of field) w i
    unfolding number_at
    of_one e = ap (λ (σ : Spelling). number_at σ w i) (sym (spelling_other field e))
