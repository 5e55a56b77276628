-- A polynomial at the k roots of one point y: its coefficients with exponents m, m + k, .. make a polynomial of its own, whose value at y is coefficient
-- m of a polynomial with k coefficients; and at every x with x^k = y that one has the value of the first.
use Prim.Native.Nat.{ℕ, zero, suc, ◌+◌, ◌*◌, ◌≤◌}
use Rattle.std.proofs.Math.Nat
use Rattle.std.proofs.Common.{not-suc-le-zero, arith, ◌∙◌}
use Rattle.std.proofs.Math.Nat.{min-le_left}
use Rattle.std.specs.Prelude.{◌≡◌, length, drop}
use Rattle.std.proofs.Math.Path.{sym, ap}
use mathlib.Core.List.{List, [], ◌∷◌, map}
use Rattle.std.proofs.Math.ListN.{get_or, length-take}
use Rattle.definition.specs.Field.{Field, power}
use Rattle.definition.specs.Lists.{range, chunks}
use Rattle.definition.specs.Polynomial.{evaluate}
use Rattle.list_laws.specs.Lists.{map_range_suc}
use Rattle.algebra.specs.Laws.{FieldLaws}
use Rattle.list_laws.specs.All.{All}
use Rattle.algebra.specs.RingLaws.{power_add, reduce_power}
use Rattle.algebra.specs.RootsOfUnity.{power_mul, power_one}
use Rattle.algebra.specs.Evaluation.{evaluate_nil, evaluate_cons, evaluate_add, evaluate_scale}
use Rattle.algebra.specs.Folding.{collapse, collapse_chunks}
use Rattle.algebra.specs.Solver.{:0, ◌:+◌, ◌:*◌, ◌:=◌, solve₁, solve₆}

module _ {A : Type 0} (F : Field A) where
  open F use {𝟘}

  -- element m of each chunk
  unfoldable pub column : ℕ → List (List A) → List A
  column m cs = map (λ c. get_or c m 𝟘) cs

  -- the values at y of the first k columns
  unfoldable pub residues : ℕ → A → List (List A) → List A
  residues k y cs = map (λ m. evaluate F (column m cs) y) (range 0 k)

module _ {A : Type 0} (F : Field A) (L : FieldLaws F) where
  infixl 65 ◌⊕◌
  infixl 70 ◌⊗◌
  open F use {𝟘, 𝟙, ◌⊕◌, ◌⊗◌}
  open L use {mul_one, mul_comm}

  zeros_at : (from k : ℕ) (x : A) → evaluate F (map (λ m. 𝟘) (range from k)) x ≡ 𝟘
  unfolding range
  zeros_at from zero x = evaluate_nil F x
  zeros_at from (suc k) x = evaluate_cons F 𝟘 _ x ∙ ap (λ (v : A). 𝟘 ⊕ x ⊗ v) (zeros_at (suc from) k x) ∙ solve₁ F L (λ x. :0 :+ x :* :0 := :0) tt x

  -- a list is the list of its first k elements, filled with zeros
  filled_at : (c : List A) (k : ℕ) (x : A) → length c ≤ k → evaluate F (map (λ m. get_or c m 𝟘) (range 0 k)) x ≡ evaluate F c x
  unfolding range
  filled_at [] k x h = zeros_at 0 k x ∙ sym (evaluate_nil F x)
  filled_at (a ∷ c) zero x h = absurd (not-suc-le-zero h)
  filled_at (a ∷ c) (suc k) x h =
      evaluate_cons F a _ x
      ∙ ap (λ (v : A). a ⊕ x ⊗ v) (ap (λ (l : List A). evaluate F l x) (map_range_suc (λ m. get_or (a ∷ c) m 𝟘) 0 k) ∙ filled_at c k x (omega arith))
      ∙ sym (evaluate_cons F a c x)

  sum_at : (u v : ℕ → A) (y : A) (from k : ℕ) (x : A) →
      evaluate F (map (λ m. u m ⊕ y ⊗ v m) (range from k)) x ≡ evaluate F (map u (range from k)) x ⊕ y ⊗ evaluate F (map v (range from k)) x
  unfolding range evaluate
  sum_at u v y from zero x = solve₁ F L (λ y. :0 := :0 :+ y :* :0) tt y
  sum_at u v y from (suc k) x =
      ap (λ (s : A). u from ⊕ y ⊗ v from ⊕ x ⊗ s) (sum_at u v y (suc from) k x)
      ∙ solve₆ F L (λ a b y x s t. a :+ y :* b :+ x :* (s :+ y :* t) := a :+ x :* s :+ y :* (b :+ x :* t)) tt
      (u from) (v from) y x (evaluate F (map u (range (suc from) k)) x) (evaluate F (map v (range (suc from) k)) x)

  -- one chunk more
  residues_cons : (k : ℕ) (y : A) (c : List A) (cs : List (List A)) (x : A) → length c ≤ k →
      evaluate F (residues F k y (c ∷ cs)) x ≡ evaluate F c x ⊕ y ⊗ evaluate F (residues F k y cs) x
  unfolding residues column evaluate
  residues_cons k y c cs x h =
      sum_at (λ m. get_or c m 𝟘) (λ m. evaluate F (column F m cs) y) y 0 k x
      ∙ ap (λ (v : A). v ⊕ y ⊗ evaluate F (residues F k y cs) x) (filled_at c k x h)

  residues_nil : (k : ℕ) (y x : A) → evaluate F (residues F k y []) x ≡ 𝟘
  unfolding residues column evaluate
  residues_nil k y x = zeros_at 0 k x

  residues_collapse : (k : ℕ) (y : A) (cs : List (List A)) (x : A) → All (λ c. length c ≤ k) cs →
      evaluate F (residues F k y cs) x ≡ evaluate F (collapse F L y cs) x
  unfolding collapse
  residues_collapse k y [] x h = residues_nil k y x ∙ sym (evaluate_nil F x)
  residues_collapse k y (c ∷ cs) x h =
      residues_cons k y c cs x h.0 ∙ ap (λ (v : A). evaluate F c x ⊕ y ⊗ v) (residues_collapse k y cs x h.1)
      ∙ sym (evaluate_add F L c _ x ∙ ap (λ (v : A). evaluate F c x ⊕ v) (evaluate_scale F L y (collapse F L y cs) x))

  chunks_short : (n k : ℕ) (f : List A) → All (λ c. length c ≤ k) (chunks n k f)
  unfolding chunks
  chunks_short zero k f = tt
  chunks_short (suc n) k f = (rw length-take (min-le_left k (length f)), chunks_short n k (drop k f))

  -- THE VALUES AT THE ROOTS: at each x with x^k = y
  pub residues_at : (n k : ℕ) (f : List A) (x y : A) → length f ≤ n * k → power F x k ≡ y → evaluate F (residues F k y (chunks n k f)) x ≡ evaluate F f x
  residues_at n k f x y h e =
      residues_collapse k y (chunks n k f) x (chunks_short n k f)
      ∙ ap (λ (v : A). evaluate F (collapse F L v (chunks n k f)) x) (sym e)
      ∙ collapse_chunks F L n k f x h

  -- the roots ω^(e + m·d), where k times d goes round, have one k-th power
  pub root_powers : (ω : A) (e d k m : ℕ) → power F ω (d * k) ≡ 𝟙 → power F (power F ω (e + m * d)) k ≡ power F (power F ω e) k
  root_powers ω e d k m round =
      power_mul F L ω (e + m * d) k ∙ ap (power F ω) (times e m d k) ∙ power_add F L ω (e * k) (d * k * m)
      ∙ ap (λ (v : A). power F ω (e * k) ⊗ v) (sym (power_mul F L ω (d * k) m) ∙ ap (λ (v : A). power F v m) round ∙ power_one F L m)
      ∙ mul_one _ ∙ reduce_power F L ω (e * k) ∙ sym (power_mul F L ω e k)
    where
      times : (e m d k : ℕ) → (e + m * d) * k ≡ e * k + d * k * m
      times e m d k = Nat.add-mul e (m * d) k ∙ ap (λ (s : ℕ). e * k + s) (Nat.mul_assoc m d k ∙ Nat.mul_comm m (d * k))
