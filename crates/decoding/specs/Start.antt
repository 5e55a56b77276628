-- Where Euclid's algorithm starts: X^n - 1 with 0, and a polynomial that is N times the table at each point with N.
use Prim.Native.Nat.{ℕ, zero, suc, ◌+◌, ◌-◌}
use Rattle.std.proofs.Common.{arith, ap₂, ◌∙◌, subst, take_all}
use Rattle.std.specs.Prelude.{◌≡◌, List, ◌∷◌, length, take, drop, get_or, set, replicate}
use Rattle.std.proofs.Math.Path.{refl, sym, ap}
use Rattle.definition.specs.Field.{Field, power}
use Rattle.definition.specs.Polynomial.{evaluate}
use Rattle.algebra.specs.Laws.{FieldLaws}
use Rattle.algebra.specs.RingLaws.{zero_add, zero_mul, sub_zero, reduce_sub, cancel}
use Rattle.algebra.specs.RootsOfUnity.{power_suc, power_zero}
use Rattle.algebra.specs.Coefficients.{Elements}
use Rattle.decoding.specs.Reduction.{Meets, Noughts, Stage}

module _ {A : Type 0} (F : Field A) where
  infixl 65 ◌⊖◌
  open F use {𝟘, 𝟙, ◌⊖◌}

  -- X^(k+1) - 1, as the code writes it
  abbrev pub unity : ℕ → List A
  unity k = (𝟘 ⊖ 𝟙) ∷ set (replicate (suc k) 𝟘) k 𝟙

  -- a constant, in t + 1 coefficients
  abbrev pub constant : A → ℕ → List A
  constant c t = c ∷ replicate t 𝟘

module _ {A : Type 0} (F : Field A) (L : FieldLaws F) where
  infixl 65 ◌⊕◌ ◌⊖◌
  infixl 70 ◌⊗◌
  open F use {𝟘, 𝟙, ◌⊕◌, ◌⊖◌, ◌⊗◌}
  open L use {reduce, mul-zero, add_zero, neg_add, reduce_zero, reduce_one, reduce_mul, one≢zero}

  pub all_noughts : (m t : ℕ) → Noughts F (drop m (replicate t 𝟘))
  all_noughts zero zero = tt
  all_noughts zero (suc t) = (refl, all_noughts zero t)
  all_noughts (suc m) zero = tt
  all_noughts (suc m) (suc t) = all_noughts m t

  nought_value : (t : ℕ) (x : A) → evaluate F (replicate t 𝟘) x ≡ 𝟘
  unfolding evaluate
  nought_value zero x = refl
  nought_value (suc t) x = ap (λ (u : A). 𝟘 ⊕ x ⊗ u) (nought_value t x) ∙ ap (λ (u : A). 𝟘 ⊕ u) (mul-zero x) ∙ add_zero 𝟘 ∙ reduce_zero

  pub constant_value : (c : A) (t : ℕ) (x : A) → reduce c ≡ c → evaluate F (constant F c t) x ≡ c
  unfolding evaluate
  constant_value c t x e = ap (λ (u : A). c ⊕ x ⊗ u) (nought_value t x) ∙ ap (λ (u : A). c ⊕ u) (mul-zero x) ∙ add_zero c ∙ e

  -- X^k
  last_one : (k : ℕ) (x : A) → evaluate F (set (replicate (suc k) 𝟘) k 𝟙) x ≡ power F x k
  unfolding evaluate
  last_one zero x = ap (λ (u : A). 𝟙 ⊕ u) (mul-zero x) ∙ add_zero 𝟙 ∙ reduce_one ∙ sym (power_zero F L x)
  last_one (suc k) x = ap (λ (u : A). 𝟘 ⊕ x ⊗ u) (last_one k x) ∙ zero_add F L _ ∙ reduce_mul x _ ∙ sym (power_suc F L x k)

  pub unity_value : (k : ℕ) (x : A) → evaluate F (unity F k) x ≡ (𝟘 ⊖ 𝟙) ⊕ power F x (suc k)
  unfolding evaluate
  unity_value k x = ap (λ (u : A). (𝟘 ⊖ 𝟙) ⊕ x ⊗ u) (last_one k x) ∙ ap (λ (u : A). (𝟘 ⊖ 𝟙) ⊕ u) (sym (power_suc F L x k))

  length_one : (k : ℕ) → length (set (replicate (suc k) 𝟘) k 𝟙) ≡ suc k
  length_one zero = refl
  length_one (suc k) = ap suc (length_one k)

  pub length_unity : (k : ℕ) → length (unity F k) ≡ suc (suc k)
  length_unity k = ap suc (length_one k)

  pub top_unity : (k : ℕ) → get_or (unity F k) (suc k) 𝟘 ≡ 𝟙
  top_unity k = top k
    where
      top : (k : ℕ) → get_or (set (replicate (suc k) 𝟘) k 𝟙) k 𝟘 ≡ 𝟙
      top zero = refl
      top (suc k) = top k

  elements_one : (k : ℕ) → Elements F L (set (replicate (suc k) 𝟘) k 𝟙)
  elements_one zero = (reduce_one, tt)
  elements_one (suc k) = (reduce_zero, elements_one k)

  pub elements_unity : (k : ℕ) → Elements F L (unity F k)
  elements_unity k = (reduce_sub F L 𝟘 𝟙, elements_one k)

  -- minus one is not 0
  minus_nonzero : reduce (𝟘 ⊖ 𝟙) ≡ 𝟘 → ⊥
  minus_nonzero e = one≢zero (sym reduce_one ∙ sym (sub_zero F L 𝟘 𝟙 (sym (reduce_sub F L 𝟘 𝟙) ∙ e)) ∙ reduce_zero)

  -- at a point x with x^n = 1, both pairs hold of y
  pub unity_meets : (k u : ℕ) (x y : A) → power F x (suc k) ≡ 𝟙 → Meets F (unity F k) (replicate u 𝟘) x y
  unity_meets k u x y e = unity_value k x ∙ ap (λ (z : A). (𝟘 ⊖ 𝟙) ⊕ z) e ∙ neg_add 𝟙 ∙ sym (ap (λ (z : A). z ⊗ y) (nought_value u x) ∙ zero_mul F L y)

  -- ALL THAT EUCLID'S ALGORITHM ASKS OF ITS START, n = k + 1
  pub start_stage : (k u : ℕ) (N : A) (t : List A) → Elements F L t → reduce N ≡ N → (N ≡ 𝟘 → ⊥) →
      Stage F L (suc k) t (constant F N u) (suc k) (unity F k) (replicate (suc u) 𝟘) (suc k + 1)
  start_stage k u N t elements eN hN =
      let one : 1 ≡ suc k + 2 - (suc k + 1) = omega arith in
      let long : length (unity F k) ≡ suc k + 1 = length_unity k ∙ two in
      record {
        above_w = subst (λ (m : ℕ). Noughts F (drop m (constant F N u))) one (all_noughts 0 u);
        above_v = all_noughts (suc k + 2 - suc k) (suc u);
        elements_s = elements;
        elements_t = elements_unity k;
        apart = λ e. hN (sym eN ∙ cancel F L (𝟘 ⊖ 𝟙) N minus_nonzero
            (sym (ap₂ (λ (a b : A). a ⊗ b) (ap (λ (l : List A). evaluate F l 𝟘) (take_all (suc k + 1) (unity F k) (omega (arith, long))) ∙ at_nought) (constant_value N u 𝟘 eN))
            ∙ sym e ∙ ap (λ (z : A). evaluate F (take (suc k) t) 𝟘 ⊗ z) (nought_value (suc u) 𝟘) ∙ mul-zero _));
      }
    where
      two : suc (suc k) ≡ suc k + 1
      two = omega arith

      at_nought : evaluate F (unity F k) 𝟘 ≡ 𝟘 ⊖ 𝟙
      at_nought = unity_value k 𝟘 ∙ ap (λ (z : A). (𝟘 ⊖ 𝟙) ⊕ z) (power_suc F L 𝟘 k ∙ zero_mul F L _) ∙ add_zero _ ∙ reduce_sub F L 𝟘 𝟙
