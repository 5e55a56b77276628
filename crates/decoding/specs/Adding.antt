-- A multiple of one polynomial, shifted, added to another: the one step of Euclid's algorithm, of long division and of the division of power series.
use Prim.Native.Nat.{ℕ, zero, suc, ◌+◌, ◌≤◌, ◌<◌}
use Rattle.std.proofs.Common.{arith, ◌∙◌}
use Rattle.std.specs.Prelude.{◌≡◌, length, take, drop, get_or}
use Rattle.std.proofs.Math.Path.{refl, sym, ap}
use mathlib.Core.List.{List, [], ◌∷◌}
use Rattle.definition.specs.Field.{Field, power}
use Rattle.definition.specs.Polynomial.{evaluate}
use Rattle.algebra.specs.Laws.{FieldLaws}
use Rattle.algebra.specs.Solver.{:1, ◌:+◌, ◌:*◌, ◌:=◌, solve₆}
use Rattle.algebra.specs.Evaluation.{reduce_evaluate}
use Rattle.algebra.specs.Coefficients.{Elements}

module _ {A : Type 0} (F : Field A) where
  infixl 65 ◌⊕◌
  infixl 70 ◌⊗◌
  open F use {𝟘, ◌⊕◌, ◌⊗◌}

  -- l + c·X^k·f, in the places of l
  unfoldable pub added : ℕ → A → List A → List A → List A
  added zero c [] l = l
  added zero c (x ∷ f) [] = []
  added zero c (x ∷ f) (y ∷ l) = (y ⊕ c ⊗ x) ∷ added zero c f l
  added (suc k) c f [] = []
  added (suc k) c f (y ∷ l) = y ∷ added k c f l

  pub length_added : (k : ℕ) (c : A) (f l : List A) → length (added k c f l) ≡ length l
  unfolding added
  length_added zero c [] l = refl
  length_added zero c (x ∷ f) [] = refl
  length_added zero c (x ∷ f) (y ∷ l) = ap suc (length_added zero c f l)
  length_added (suc k) c f [] = refl
  length_added (suc k) c f (y ∷ l) = ap suc (length_added k c f l)

  -- the places after it, and the places up to it
  pub drop_added : (m k : ℕ) (c : A) (f l : List A) → k + length f ≤ m → drop m (added k c f l) ≡ drop m l
  unfolding added
  drop_added zero zero c [] l h = refl
  drop_added zero zero c (x ∷ f) l h = absurd (omega arith)
  drop_added zero (suc k) c f l h = absurd (omega arith)
  drop_added (suc m) zero c [] l h = refl
  drop_added (suc m) zero c (x ∷ f) [] h = refl
  drop_added (suc m) zero c (x ∷ f) (y ∷ l) h = drop_added m zero c f l (omega arith)
  drop_added (suc m) (suc k) c f [] h = refl
  drop_added (suc m) (suc k) c f (y ∷ l) h = drop_added m k c f l (omega arith)

  pub take_added : (m k : ℕ) (c : A) (f l : List A) → k + length f ≤ m → take m (added k c f l) ≡ added k c f (take m l)
  unfolding added
  take_added zero zero c [] l h = refl
  take_added zero zero c (x ∷ f) l h = absurd (omega arith)
  take_added zero (suc k) c f l h = absurd (omega arith)
  take_added (suc m) zero c [] l h = refl
  take_added (suc m) zero c (x ∷ f) [] h = refl
  take_added (suc m) zero c (x ∷ f) (y ∷ l) h = ap (λ (r : List A). (y ⊕ c ⊗ x) ∷ r) (take_added m zero c f l (omega arith))
  take_added (suc m) (suc k) c f [] h = refl
  take_added (suc m) (suc k) c f (y ∷ l) h = ap (λ (r : List A). y ∷ r) (take_added m k c f l (omega arith))

  -- seen from the place of its first coefficient
  pub added_from : (k : ℕ) (c : A) (f l : List A) → drop k (added k c f l) ≡ added 0 c f (drop k l)
  unfolding added
  added_from zero c f l = refl
  added_from (suc k) c [] [] = refl
  added_from (suc k) c (x ∷ f) [] = refl
  added_from (suc k) c f (y ∷ l) = added_from k c f l

  pub get_added : (k i j : ℕ) (c : A) (f l : List A) → j ≡ k + i → i < length f → j < length l → get_or (added k c f l) j 𝟘 ≡ get_or l j 𝟘 ⊕ c ⊗ get_or f i 𝟘
  unfolding added
  get_added k i j c f [] e h g = absurd (omega arith)
  get_added zero i j c [] (y ∷ l) e h g = absurd (omega arith)
  get_added zero zero zero c (x ∷ f) (y ∷ l) e h g = refl
  get_added zero zero (suc j) c (x ∷ f) (y ∷ l) e h g = absurd (omega arith)
  get_added zero (suc i) zero c (x ∷ f) (y ∷ l) e h g = absurd (omega arith)
  get_added zero (suc i) (suc j) c (x ∷ f) (y ∷ l) e h g = get_added zero i j c f l (omega arith) (omega arith) (omega arith)
  get_added (suc k) i zero c f (y ∷ l) e h g = absurd (omega arith)
  get_added (suc k) i (suc j) c f (y ∷ l) e h g = get_added k i j c f l (omega arith) (omega arith) (omega arith)

module _ {A : Type 0} (F : Field A) (L : FieldLaws F) where
  infixl 65 ◌⊕◌
  infixl 70 ◌⊗◌
  open F use {𝟘, 𝟙, ◌⊕◌, ◌⊗◌}
  open L use {add_zero, mul-zero, reduce_add}

  pub evaluate_added : (k : ℕ) (c : A) (f l : List A) (z : A) → k + length f ≤ length l →
      evaluate F (added F k c f l) z ≡ evaluate F l z ⊕ power F z k ⊗ (c ⊗ evaluate F f z)
  unfolding added evaluate power
  evaluate_added zero c [] l z h =
      sym (ap (λ (v : A). evaluate F l z ⊕ v) (ap (λ (u : A). 𝟙 ⊗ u) (mul-zero c) ∙ mul-zero 𝟙) ∙ add_zero (evaluate F l z) ∙ reduce_evaluate F L l z)
  evaluate_added zero c (x ∷ f) [] z h = absurd (omega arith)
  evaluate_added zero c (x ∷ f) (y ∷ l) z h =
      ap (λ (v : A). (y ⊕ c ⊗ x) ⊕ z ⊗ v) (evaluate_added zero c f l z (omega arith))
      ∙ solve₆ F L (λ y c x z a b. (y :+ c :* x) :+ z :* (a :+ :1 :* (c :* b)) := (y :+ z :* a) :+ :1 :* (c :* (x :+ z :* b))) tt y c x z (evaluate F l z) (evaluate F f z)
  evaluate_added (suc k) c f [] z h = absurd (omega arith)
  evaluate_added (suc k) c f (y ∷ l) z h =
      ap (λ (v : A). y ⊕ z ⊗ v) (evaluate_added k c f l z (omega arith))
      ∙ solve₆ F L (λ y z a p c b. y :+ z :* (a :+ p :* (c :* b)) := (y :+ z :* a) :+ (z :* p) :* (c :* b)) tt y z (evaluate F l z) (power F z k) c (evaluate F f z)

  pub elements_added : (k : ℕ) (c : A) (f l : List A) → Elements F L l → Elements F L (added F k c f l)
  unfolding added
  elements_added zero c [] l h = h
  elements_added zero c (x ∷ f) [] h = tt
  elements_added zero c (x ∷ f) (y ∷ l) h = (reduce_add y (c ⊗ x), elements_added zero c f l h.1)
  elements_added (suc k) c f [] h = tt
  elements_added (suc k) c f (y ∷ l) h = (h.0, elements_added k c f l h.1)
