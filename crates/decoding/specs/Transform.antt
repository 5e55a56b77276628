-- The inverse transform without its division by n. Where Y has n coefficients and ω has order n, the values of Y at the powers of 1/ω are the coefficients of a
-- polynomial whose value at ω^k is n times Y's coefficient k.
use Prim.Native.Nat.{ℕ, zero, suc, ◌+◌, ◌-◌, ◌*◌, ◌≤◌, ◌<◌}
use Rattle.std.proofs.Common.{arith, ◌∙◌}
use Rattle.std.specs.Prelude.{◌≡◌, length, get_or}
use Rattle.std.proofs.Math.Path.{refl, sym, ap, ap₂}
use mathlib.Core.List.{List, [], ◌∷◌, map}
use Rattle.definition.specs.Field.{Field, power}
use Rattle.definition.specs.Lists.{range}
use Rattle.definition.specs.Polynomial.{evaluate}
use Rattle.list_laws.specs.All.{all_range, map_all}
use Rattle.algebra.specs.Laws.{FieldLaws}
use Rattle.algebra.specs.Solver.{:1, ◌:+◌, ◌:*◌, ◌:=◌, solve₃, solve₅}
use Rattle.algebra.specs.RingLaws.{zero_mul, zero_add, one_mul, reduce_power, power_add}
use Rattle.algebra.specs.Evaluation.{reduce_evaluate}
use Rattle.algebra.specs.RootsOfUnity.{power_zero, power_mul, power_one}
use Rattle.decoding.specs.GeometricSum.{geometric_sum, multiple, sum_nought}

module _ {A : Type 0} (F : Field A) (L : FieldLaws F) where
  infixl 65 ◌⊕◌ ◌⊖◌
  infixl 70 ◌⊗◌
  open F use {𝟘, 𝟙, ◌⊕◌, ◌⊖◌, ◌⊗◌}
  open L use {reduce, add_comm, mul_comm, mul_assoc, mul_one, mul-zero, add_zero, reduce_zero, reduce_one, reduce_add, reduce_mul, one≢zero}

  -- ---- sums over a range, as values

  sum_add : (g h : ℕ → A) (r : List ℕ) (x : A) → evaluate F (map (λ i. g i ⊕ h i) r) x ≡ evaluate F (map g r) x ⊕ evaluate F (map h r) x
  unfolding evaluate
  sum_add g h [] x = sym (add_zero 𝟘 ∙ reduce_zero)
  sum_add g h (i ∷ r) x =
      ap (λ (u : A). (g i ⊕ h i) ⊕ x ⊗ u) (sum_add g h r x)
      ∙ solve₅ F L (λ a b x c d. (a :+ b) :+ x :* (c :+ d) := (a :+ x :* c) :+ (b :+ x :* d)) tt (g i) (h i) x (evaluate F (map g r) x) (evaluate F (map h r) x)

  sum_constant : (y : A) (from n : ℕ) (x : A) → evaluate F (map (λ i. y) (range from n)) x ≡ y ⊗ geometric_sum F x n
  unfolding evaluate geometric_sum range
  sum_constant y from zero x = sym (mul-zero y)
  sum_constant y from (suc n) x =
      ap (λ (u : A). y ⊕ x ⊗ u) (sum_constant y (suc from) n x) ∙ solve₃ F L (λ y x s. y :+ x :* (y :* s) := y :* (:1 :+ x :* s)) tt y x (geometric_sum F x n)

  pub sum_shift : (v : A) (g : ℕ → A) (from n : ℕ) (x : A) →
      evaluate F (map (λ i. power F v i ⊗ g i) (range from n)) x ≡ power F v from ⊗ evaluate F (map g (range from n)) (v ⊗ x)
  unfolding evaluate range power
  sum_shift v g from zero x = sym (mul-zero (power F v from))
  sum_shift v g from (suc n) x =
      ap (λ (u : A). power F v from ⊗ g from ⊕ x ⊗ u) (sum_shift v g (suc from) n x)
      ∙ solve₅ F L (λ p a x v s. p :* a :+ x :* ((v :* p) :* s) := p :* (a :+ (v :* x) :* s)) tt (power F v from) (g from) x v (evaluate F (map g (range (suc from) n)) (v ⊗ x))

  cons_values : (h : ℕ → A) (y : A) (f : List A) (r : List ℕ) (x : A) →
      evaluate F (map (λ i. evaluate F (y ∷ f) (h i)) r) x ≡ evaluate F (map (λ i. y ⊕ h i ⊗ evaluate F f (h i)) r) x
  unfolding evaluate
  cons_values h y f r x = refl

  nil_values : (h : ℕ → A) (r : List ℕ) (x : A) → evaluate F (map (λ i. evaluate F [] (h i)) r) x ≡ evaluate F (map (λ i. 𝟘) r) x
  unfolding evaluate
  nil_values h r x = refl

  module _ (ω : A) (m : ℕ) (round : power F ω (suc m) ≡ 𝟙) (order : (c : ℕ) → 0 < c → c < suc m → power F ω c ≡ 𝟙 → ⊥) where
    -- 1/ω
    abbrev ν : A
    ν = power F ω m

    -- the value at ω^e of the polynomial with the values of Y at the powers of 1/ω as coefficients
    abbrev back : ℕ → List A → A
    back e f = evaluate F (map (λ i. evaluate F f (power F ν i)) (range 0 (suc m))) (power F ω e)

    back_cons : (e : ℕ) (y : A) (f : List A) (x : A) → ν ⊗ power F ω e ≡ x →
        back e (y ∷ f) ≡ y ⊗ geometric_sum F (power F ω e) (suc m) ⊕ evaluate F (map (λ i. evaluate F f (power F ν i)) (range 0 (suc m))) x
    back_cons e y f x z =
        split e y f
        ∙ ap₂ (λ (a b : A). a ⊕ b) (sum_constant y 0 (suc m) (power F ω e))
        (sum_shift ν (λ i. evaluate F f (power F ν i)) 0 (suc m) (power F ω e) ∙ one ∙ ap (λ (u : A). evaluate F (map (λ i. evaluate F f (power F ν i)) (range 0 (suc m))) u) z)
      where
        one : power F ν 0 ⊗ evaluate F (map (λ i. evaluate F f (power F ν i)) (range 0 (suc m))) (ν ⊗ power F ω e) ≡ evaluate F (map (λ i. evaluate F f (power F ν i)) (range 0 (suc m))) (ν ⊗ power F ω e)
        one = ap (λ (u : A). u ⊗ evaluate F (map (λ i. evaluate F f (power F ν i)) (range 0 (suc m))) (ν ⊗ power F ω e)) (power_zero F L ν) ∙ one_mul F L _ ∙ reduce_evaluate F L _ _

        split : (e : ℕ) (y : A) (f : List A) → back e (y ∷ f) ≡ evaluate F (map (λ i. y) (range 0 (suc m))) (power F ω e) ⊕ evaluate F (map (λ i. power F ν i ⊗ evaluate F f (power F ν i)) (range 0 (suc m))) (power F ω e)
        split e y f = cons_values (power F ν) y f (range 0 (suc m)) (power F ω e) ∙ sum_add (λ i. y) (λ i. power F ν i ⊗ evaluate F f (power F ν i)) (range 0 (suc m)) (power F ω e)

    full : (e : ℕ) → power F (power F ω e) (suc m) ≡ 𝟙
    full e = power_mul F L ω e (suc m) ∙ ap (power F ω) (swap e m) ∙ sym (power_mul F L ω (suc m) e) ∙ ap (λ (u : A). power F u e) round ∙ power_one F L e
      where
        swap : (e m : ℕ) → e * suc m ≡ suc m * e
        swap e m = omega arith

    -- ω^e adds up to 0 for 0 < e < n
    none : (e : ℕ) → 0 < e → e < suc m → geometric_sum F (power F ω e) (suc m) ≡ 𝟘
    none e h l = sum_nought F L (power F ω e) (suc m) (full e) (order e h l) (reduce_power F L ω e)

    down : (e : ℕ) → ν ⊗ power F ω (suc e) ≡ power F ω e
    down e =
        sym (power_add F L ω m (suc e)) ∙ ap (power F ω) (shift m e) ∙ power_add F L ω (suc m) e ∙ ap (λ (u : A). u ⊗ power F ω e) round ∙ one_mul F L _ ∙ reduce_power F L ω e
      where
        shift : (m e : ℕ) → m + suc e ≡ suc m + e
        shift m e = omega arith

    down_zero : ν ⊗ power F ω 0 ≡ power F ω m
    down_zero = ap (λ (u : A). ν ⊗ u) (power_zero F L ω) ∙ mul_one ν ∙ reduce_power F L ω m

    drops : (y : A) (e : ℕ) (f : List A) → 0 < suc e → suc e < suc m → back (suc e) (y ∷ f) ≡ back e f
    drops y e f h l =
        back_cons (suc e) y f (power F ω e) (down e) ∙ ap (λ (u : A). y ⊗ u ⊕ back e f) (none (suc e) h l)
        ∙ ap (λ (u : A). u ⊕ back e f) (mul-zero y) ∙ zero_add F L (back e f) ∙ reduce_evaluate F L _ _

    vanish : (e : ℕ) (f : List A) → length f ≤ e → e < suc m → back e f ≡ 𝟘
    vanish e [] l h = nil e
      where
        nil : (e : ℕ) → back e [] ≡ 𝟘
        nil e = nil_values (power F ν) (range 0 (suc m)) (power F ω e) ∙ sum_constant 𝟘 0 (suc m) (power F ω e) ∙ zero_mul F L _
    vanish zero (y ∷ f) l h = absurd (omega arith)
    vanish (suc e) (y ∷ f) l h = drops y e f (omega arith) h ∙ vanish e f (omega arith) (omega arith)

    -- n TIMES THE COEFFICIENT
    pub back_is : (k : ℕ) (f : List A) → k < length f → length f ≤ suc m → back k f ≡ get_or f k 𝟘 ⊗ multiple F (suc m)
    unfolding multiple
    back_is k [] h l = absurd (omega arith)
    back_is zero (y ∷ f) h l =
        back_cons 0 y f (power F ω m) down_zero
        ∙ ap₂ (λ (a b : A). y ⊗ geometric_sum F a (suc m) ⊕ b) (power_zero F L ω) (vanish m f (omega arith) (omega arith)) ∙ add_zero _ ∙ reduce_mul _ _
    back_is (suc k) (y ∷ f) h l = drops y k f (omega arith) (omega arith) ∙ back_is k f (omega arith) (omega arith)

    -- the coefficients in hand: the value of Y at ω^(n-i), times ω^(n-i); as a polynomial, at ω^(1+k) it is n times Y's coefficient k
    upside : (i : ℕ) → i ≤ suc m → power F ω (suc m - i) ≡ power F ν i
    upside i h =
        sym (mul_one _ ∙ reduce_power F L ω (suc m - i)) ∙ ap (λ (u : A). power F ω (suc m - i) ⊗ u) (sym unit) ∙ sym (mul_assoc _ _ _)
        ∙ ap (λ (u : A). u ⊗ power F ν i) (sym (power_add F L ω (suc m - i) i) ∙ ap (power F ω) back_up ∙ round) ∙ one_mul F L _ ∙ reduce_power F L ν i
      where
        back_up : suc m - i + i ≡ suc m
        back_up = omega arith

        whole : (i m : ℕ) → i + m * i ≡ suc m * i
        whole i m = omega arith

        unit : power F ω i ⊗ power F ν i ≡ 𝟙
        unit = ap (λ (u : A). power F ω i ⊗ u) (power_mul F L ω m i) ∙ sym (power_add F L ω i (m * i)) ∙ ap (power F ω) (whole i m) ∙ sym (power_mul F L ω (suc m) i) ∙ ap (λ (u : A). power F u i) round ∙ power_one F L i

    -- the polynomial that the code writes
    abbrev pub transformed : List A → List A
    transformed f = map (λ i. power F ω (suc m - i) ⊗ evaluate F f (power F ω (suc m - i))) (range 0 (suc m))

    -- AT ω^(1+k) IT IS n TIMES Y's COEFFICIENT k
    pub transformed_is : (k : ℕ) (f : List A) → k < length f → length f ≤ suc m → evaluate F (transformed f) (power F ω (1 + k)) ≡ get_or f k 𝟘 ⊗ multiple F (suc m)
    transformed_is k f h l =
        ap (λ (r : List A). evaluate F r (power F ω (1 + k)))
        (map_all (λ i. i ≤ m) (λ i. power F ω (suc m - i) ⊗ evaluate F f (power F ω (suc m - i))) (λ i. power F ν i ⊗ evaluate F f (power F ν i)) (range 0 (suc m))
        (all_range (λ i. i ≤ m) 0 (suc m) (λ i _ u. omega arith)) (λ i u. ap (λ (x : A). x ⊗ evaluate F f x) (upside i (omega arith))))
        ∙ sum_shift ν (λ i. evaluate F f (power F ν i)) 0 (suc m) (power F ω (1 + k))
        ∙ ap₂ (λ (a b : A). a ⊗ evaluate F (map (λ i. evaluate F f (power F ν i)) (range 0 (suc m))) b) (power_zero F L ν) (ap (λ (j : ℕ). ν ⊗ power F ω j) (up k) ∙ down k)
        ∙ one_mul F L _ ∙ reduce_evaluate F L _ _ ∙ back_is k f h l
      where
        up : (k : ℕ) → 1 + k ≡ suc k
        up k = omega arith
