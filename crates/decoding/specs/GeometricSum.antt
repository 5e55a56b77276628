-- The sum 1 + q + .. + q^(n-1): it is 0 where q is not 1 and q^n is, and at q = 1 it is n as an element, which is not 0 where n is a power of two and -1 is not 1.
use Prim.Native.Nat.{ℕ, zero, suc, ◌+◌, ◌^◌}
use Rattle.std.proofs.Math.Nat.{pow-suc}
use native.Mathlib.Omega.{arith}
use Rattle.std.specs.Prelude.{◌≡◌}
use Rattle.std.proofs.Math.Path.{refl, sym, ap}
use Rattle.std.proofs.Common.{◌∙◌}
use Rattle.definition.specs.Field.{Field, power}
use Rattle.algebra.specs.Laws.{FieldLaws}
use Rattle.algebra.specs.RingLaws.{cancel, neg_unique, reduce_sub, sub_self, sub_zero, zero_add}
use Rattle.algebra.specs.Solver.{:0, :1, ◌:+◌, ◌:-◌, ◌:*◌, ◌:=◌, given, solve₁, solve₂, solve₃}
use Rattle.algebra.specs.RootsOfUnity.{minus_one}

unfoldable pub geometric_sum : {A : Type 0} → Field A → A → ℕ → A
geometric_sum F q zero = F.𝟘
geometric_sum F q (suc n) = F.◌⊕◌ F.𝟙 (F.◌⊗◌ q (geometric_sum F q n))

module _ {A : Type 0} (F : Field A) where
  infixl 65 ◌⊕◌
  infixl 70 ◌⊗◌
  open F use {𝟘, 𝟙, ◌⊕◌, ◌⊗◌}

  pub sum_zero : (q : A) → geometric_sum F q 0 ≡ 𝟘
  unfolding geometric_sum
  sum_zero q = refl

  pub sum_suc : (q : A) (n : ℕ) → geometric_sum F q (suc n) ≡ 𝟙 ⊕ q ⊗ geometric_sum F q n
  unfolding geometric_sum
  sum_suc q n = refl

  -- n as an element
  unfoldable pub multiple : ℕ → A
  multiple n = geometric_sum F 𝟙 n

module _ {A : Type 0} (F : Field A) (L : FieldLaws F) where
  infixl 65 ◌⊕◌ ◌⊖◌
  infixl 70 ◌⊗◌
  open F use {𝟘, 𝟙, ◌⊕◌, ◌⊖◌, ◌⊗◌}
  open L use {reduce, mul_comm, mul-zero, add_zero, reduce_zero, reduce_one, reduce_add, one≢zero}

  pub reduce_sum : (x : A) (n : ℕ) → reduce (geometric_sum F x n) ≡ geometric_sum F x n
  unfolding geometric_sum
  reduce_sum x zero = reduce_zero
  reduce_sum x (suc n) = reduce_add 𝟙 (x ⊗ geometric_sum F x n)

  -- (1 + x + .. + x^(n-1))·(x - 1) = x^n - 1
  telescope : (x : A) (n : ℕ) → geometric_sum F x n ⊗ (x ⊖ 𝟙) ≡ power F x n ⊖ 𝟙
  unfolding geometric_sum power
  telescope x zero = solve₁ F L (λ x. :0 :* (x :- :1) := :1 :- :1) tt x
  telescope x (suc n) =
      solve₃ F L (λ x s p. given (s :* (x :- :1)) (p :- :1) x ((:1 :+ x :* s) :* (x :- :1) := x :* p :- :1)) tt x (geometric_sum F x n) (power F x n) (telescope x n)

  -- the sum over a root of unity that is not 1
  pub sum_nought : (x : A) (n : ℕ) → power F x n ≡ 𝟙 → (x ≡ 𝟙 → ⊥) → reduce x ≡ x → geometric_sum F x n ≡ 𝟘
  sum_nought x n e h r =
      sym (reduce_sum x n)
      ∙ cancel F L (x ⊖ 𝟙) (geometric_sum F x n) (λ z. h (sym r ∙ sub_zero F L x 𝟙 (sym (reduce_sub F L x 𝟙) ∙ z) ∙ reduce_one))
      (mul_comm _ _ ∙ telescope x n ∙ ap (λ (u : A). u ⊖ 𝟙) e ∙ sub_self F L 𝟙)

  multiple_add : (a b : ℕ) → multiple F (a + b) ≡ multiple F a ⊕ multiple F b
  unfolding multiple geometric_sum
  multiple_add zero b = ap (geometric_sum F 𝟙) (nil b) ∙ sym (zero_add F L _ ∙ reduce_sum 𝟙 b)
    where
      nil : (b : ℕ) → 0 + b ≡ b
      nil b = omega arith
  multiple_add (suc a) b =
      ap (geometric_sum F 𝟙) (next a b) ∙ ap (λ (u : A). 𝟙 ⊕ 𝟙 ⊗ u) (multiple_add a b)
      ∙ solve₂ F L (λ x y. :1 :+ :1 :* (x :+ y) := (:1 :+ :1 :* x) :+ y) tt (geometric_sum F 𝟙 a) (geometric_sum F 𝟙 b)
    where
      next : (a b : ℕ) → suc a + b ≡ suc (a + b)
      next a b = omega arith

  pub multiple_reduced : (n : ℕ) → reduce (multiple F n) ≡ multiple F n
  unfolding multiple
  multiple_reduced n = reduce_sum 𝟙 n

  -- a power of two is not 0 where -1 is not 1
  pub multiple_nonzero : (minus_one F ≡ 𝟙 → ⊥) → (e : ℕ) → multiple F (2 ^ e) ≡ 𝟘 → ⊥
  unfolding multiple geometric_sum minus_one
  multiple_nonzero signs zero z = one≢zero (sym (ap (λ (u : A). 𝟙 ⊕ u) (mul-zero 𝟙) ∙ add_zero 𝟙 ∙ reduce_one) ∙ z)
  multiple_nonzero signs (suc e) z =
      multiple_nonzero signs e
      (sym (reduce_sum 𝟙 (2 ^ e)) ∙ cancel F L (𝟙 ⊕ 𝟙) (geometric_sum F 𝟙 (2 ^ e))
      (λ q. signs (sym (sym reduce_one ∙ neg_unique F L 𝟙 𝟙 (sym (reduce_add 𝟙 𝟙) ∙ q))))
      (solve₁ F L (λ x. (:1 :+ :1) :* x := x :+ x) tt (geometric_sum F 𝟙 (2 ^ e)) ∙ sym (multiple_add (2 ^ e) (2 ^ e)) ∙ ap (geometric_sum F 𝟙) (sym (twice e)) ∙ z))
    where
      twice : (e : ℕ) → 2 ^ suc e ≡ 2 ^ e + 2 ^ e
      twice e = omega (arith, pow-suc 2 e)
