-- The turns of `differ`, over any field: the places from i on are counted.
use Prim.Native.Nat.{ℕ, suc, ◌+◌, ◌-◌, ◌≤◌, ◌<◌}
use native.Mathlib.Omega.{arith}
use mathlib.Core.Path.{◌≡◌, sym, ap, ap₂, ◌∙◌}
use mathlib.Core.Bool.{Bool, true, false, not}
use mathlib.Core.List.{List, ◌∷◌, zip_with}
use lib.ListN.{length, drop, get_or, drop_of_length-le}
use Rattle.definition.specs.Field.{Field}
use Rattle.nearest_definition.specs.Nearest.{all_true, differing_points}
use Rattle.decoding.specs.AllTrue.{count_from}
use Rattle.list_laws.specs.Backwards.{drop_back}

module _ {A : Type 0} (F : Field A) where
  open F use {𝟘, equal}

  -- in how many places from i on
  unfoldable pub further : List A → List A → ℕ → ℕ
  further xs ys i = length (differing_points F (drop i xs) (drop i ys))

  pub further_nil : (xs ys : List A) (n : ℕ) → length xs ≡ n → 0 ≡ further xs ys n
  unfolding further differing_points zip_with all_true
  further_nil xs ys n e = sym (ap (λ (l : List A). length (all_true 0 (zip_with (λ x y. not (equal x y)) l (drop n ys)))) (drop_of_length-le xs {i = n} (omega arith)))

  module _ (xs ys : List A) (i : ℕ) (h : 0 < i) (lx : i ≤ length xs) (ly : i ≤ length ys) where
    -- one place more, by the test of it
    one_more : (b other : Bool) → b ≡ equal (get_or xs (i - 1) 𝟘) (get_or ys (i - 1) 𝟘) → not b ≡ other →
        further xs ys (i - 1) ≡ length (all_true 0 (other ∷ zip_with (λ x y. not (equal x y)) (drop i xs) (drop i ys)))
    unfolding further differing_points zip_with
    one_more b other e z =
        ap₂ (λ (a c : List A). length (differing_points F a c)) (drop_back xs 𝟘 i h lx) (drop_back ys 𝟘 i h ly)
        ∙ ap (λ (c : Bool). length (all_true 0 (c ∷ zip_with (λ x y. not (equal x y)) (drop i xs) (drop i ys)))) (ap not (sym e) ∙ z)

    pub further_other : {b : Bool} {k : ℕ} → b ≡ equal (get_or xs (i - 1) 𝟘) (get_or ys (i - 1) 𝟘) → not b ≡ true → k ≡ further xs ys i → k + 1 ≡ further xs ys (i - 1)
    unfolding further differing_points all_true
    further_other {b} {k} e z q =
        let n : k + 1 ≡ suc k = omega arith in
        n ∙ ap suc (q ∙ count_from 0 1 (zip_with (λ x y. not (equal x y)) (drop i xs) (drop i ys))) ∙ sym (one_more b true e z)

    pub further_same : {b : Bool} {k : ℕ} → b ≡ equal (get_or xs (i - 1) 𝟘) (get_or ys (i - 1) 𝟘) → not b ≡ false → k ≡ further xs ys i → k ≡ further xs ys (i - 1)
    unfolding further differing_points all_true
    further_same {b} {k} e z q = q ∙ count_from 0 1 (zip_with (λ x y. not (equal x y)) (drop i xs) (drop i ys)) ∙ sym (one_more b false e z)

  pub further_all : (xs ys : List A) (i : ℕ) {k : ℕ} → i ≡ 0 → k ≡ further xs ys i → k ≡ length (differing_points F xs ys)
  unfolding further
  further_all xs ys i z e = e ∙ ap (λ (m : ℕ). length (differing_points F (drop m xs) (drop m ys))) z
