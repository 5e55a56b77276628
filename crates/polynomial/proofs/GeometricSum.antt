-- The sum 1 + q + .. + q^(n-1) by doubling: an even number of terms is half as many at the square of q, 1 + q times.
use Prim.Native.Nat.{ℕ, zero, suc, ◌+◌, ◌/◌, ◌%◌}
use mathlib.Core.Path.{◌≡◌, ◌∙◌, sym, ap, refl}
use native.Mathlib.Omega.{arith}
use Rattle.definition.specs.Field.{Field}
use Rattle.definition.specs.Polynomial.{evaluate, geometric}
use Rattle.algebra.specs.Laws.{FieldLaws}
use Rattle.algebra.specs.Evaluation.{evaluate_nil, evaluate_cons, evaluate_scale}
use Rattle.algebra.specs.Solver.{:1, ◌:+◌, ◌:*◌, ◌:=◌, solve₂, solve₄}

unfoldable pub geometric_sum : {A : Type 0} → Field A → A → ℕ → A
geometric_sum F q zero = F.𝟘
geometric_sum F q (suc n) = F.◌⊕◌ F.𝟙 (F.◌⊗◌ q (geometric_sum F q n))

module _ {A : Type 0} (F : Field A) (L : FieldLaws F) where
  infixl 65 ◌⊕◌
  infixl 70 ◌⊗◌
  open F use {𝟘, 𝟙, ◌⊕◌, ◌⊗◌}
  open L use {mul_assoc, mul-zero, add_zero, reduce_one}

  sum_zero : (q : A) → geometric_sum F q 0 ≡ 𝟘
  unfolding geometric_sum
  sum_zero q = refl

  sum_suc : (q : A) (n : ℕ) → geometric_sum F q (suc n) ≡ 𝟙 ⊕ q ⊗ geometric_sum F q n
  unfolding geometric_sum
  sum_suc q n = refl

  -- the definition's geometric polynomial at x is the sum at cx, which has one term more than the degree
  geometric_sum_lem : (c x : A) (e : ℕ) → geometric_sum F (x ⊗ c) (suc e) ≡ evaluate F (geometric F c e) x
  unfolding geometric
  geometric_sum_lem c x zero = rw (sum_suc (x ⊗ c) 0, sum_zero, mul-zero, evaluate_cons F 𝟙, evaluate_nil F, mul-zero)
  geometric_sum_lem c x (suc e) = rw (sum_suc (x ⊗ c) (suc e), geometric_sum_lem c x e, evaluate_cons F 𝟙, evaluate_scale F L, mul_assoc)

  step : (q s : A) → 𝟙 ⊕ q ⊗ (𝟙 ⊕ q ⊗ ((𝟙 ⊕ q) ⊗ s)) ≡ (𝟙 ⊕ q) ⊗ (𝟙 ⊕ (q ⊗ q) ⊗ s)
  step = solve₂ F L (λ q s. :1 :+ q :* (:1 :+ q :* ((:1 :+ q) :* s)) := (:1 :+ q) :* (:1 :+ (q :* q) :* s)) tt

  double : (q : A) (m : ℕ) → geometric_sum F q (m + m) ≡ (𝟙 ⊕ q) ⊗ geometric_sum F (q ⊗ q) m
  double q zero = sum_zero q ∙ sym (rw (sum_zero (q ⊗ q), mul-zero))
  double q (suc m) =
      ap (geometric_sum F q) (two m) ∙ rw (sum_suc q (suc (m + m)), sum_suc q (m + m), double q m, sum_suc (q ⊗ q) m) (step q (geometric_sum F (q ⊗ q) m))
    where
      two : (m : ℕ) → suc m + suc m ≡ suc (suc (m + m))
      two m = omega arith

  -- Between two turns of the loop for t: a is reduced, and what is to be added to it is b times the sum of n powers of q.
  pub record Turn (t a b q : A) (n : ℕ) : Type 0 where
    pub reduced : L.reduce a ≡ a
    pub left : a ⊕ b ⊗ geometric_sum F q n ≡ t

  pub turn_first : (c x : A) (e : ℕ) {a q : A} → a ≡ 𝟙 → q ≡ x ⊗ c → Turn (evaluate F (geometric F c e) x) a q q e
  turn_first c x e {q = q} ea h = rw ea (record { reduced = reduce_one; left = sym (sum_suc q e) ∙ ap (λ (s : A). geometric_sum F s (suc e)) h ∙ geometric_sum_lem c x e })

  pub turn_even : {t a b q a' b₁ b' q' : A} {n : ℕ} → Turn t a b q n → (n % 2 ≡ 1 → ⊥) → a' ≡ a → b₁ ≡ b → b' ≡ b₁ ⊕ b₁ ⊗ q → q' ≡ q ⊗ q →
      Turn t a' b' q' (n / 2)
  turn_even {t} {a} {b} {q} {n = n} turn h ea e₁ eb eq =
      let whole : n / 2 + n / 2 ≡ n = omega arith in
      rw (ea, eb, eq, e₁) (record {
        reduced = turn.reduced;
        left = solve₄ F L (λ a b q s. a :+ (b :+ b :* q) :* s := a :+ b :* ((:1 :+ q) :* s)) tt a b q (geometric_sum F (q ⊗ q) (n / 2))
            ∙ ap (λ (s : A). a ⊕ b ⊗ s) (sym (double q (n / 2)) ∙ ap (geometric_sum F q) whole)
            ∙ turn.left;
      })

  pub turn_odd : {t a b q a' b₁ b' q' : A} {n : ℕ} → Turn t a b q n → n % 2 ≡ 1 → a' ≡ a ⊕ b → b₁ ≡ b ⊗ q → b' ≡ b₁ ⊕ b₁ ⊗ q → q' ≡ q ⊗ q →
      Turn t a' b' q' (n / 2)
  turn_odd {t} {a} {b} {q} {n = n} turn h ea e₁ eb eq =
      let whole : suc (n / 2 + n / 2) ≡ n = omega arith in
      rw (ea, eb, eq, e₁) (record {
        reduced = L.reduce_add a b;
        left = solve₄ F L (λ a b q s. (a :+ b) :+ (b :* q :+ (b :* q) :* q) :* s := a :+ b :* (:1 :+ q :* ((:1 :+ q) :* s))) tt a b q (geometric_sum F (q ⊗ q) (n / 2))
            ∙ ap (λ (s : A). a ⊕ b ⊗ (𝟙 ⊕ q ⊗ s)) (sym (double q (n / 2)))
            ∙ ap (λ (s : A). a ⊕ b ⊗ s) (sym (sum_suc q (n / 2 + n / 2)) ∙ ap (geometric_sum F q) whole)
            ∙ turn.left;
      })

  pub turn_last : {t a b q : A} {n : ℕ} → Turn t a b q n → n ≡ 0 → a ≡ t
  turn_last {t} {a} {b} {q} turn z =
      sym (ap (λ (m : ℕ). a ⊕ b ⊗ geometric_sum F q m) z ∙ rw (sum_zero, mul-zero, add_zero) turn.reduced) ∙ turn.left
