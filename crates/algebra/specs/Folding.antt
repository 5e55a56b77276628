-- The fold of a polynomial at r, through the polynomial in r that its chunks make: the sum of Y^j times chunk j.
use Prim.Native.Nat.{ℕ, zero, suc, ◌*◌, ◌≤◌, zero-le}
use Rattle.std.specs.Prelude.{◌≡◌, take, drop}
use Rattle.std.proofs.Math.Path.{refl}
use Rattle.std.proofs.Common.{◌∙◌, not-suc-le-zero, arith}
use mathlib.Core.List.{List, [], ◌∷◌, map}
use Rattle.std.proofs.Math.Nat
use Rattle.std.proofs.Math.Nat.{suc-mul, min-le_left}
use Rattle.std.proofs.Math.ListN.{length, length-take, length-drop}
use Rattle.definition.specs.Lists.{chunks}
use Rattle.definition.specs.Field.{Field, power}
use Rattle.definition.specs.Polynomial.{evaluate, scale, add_poly}
use Rattle.algebra.specs.Laws.{FieldLaws}
use Rattle.algebra.specs.RingLaws.{zero_mul}
use Rattle.algebra.specs.Lengths.{length_scale, length_add_le}
use Rattle.algebra.specs.Evaluation.{evaluate_nil, evaluate_cons, evaluate_scale, evaluate_add, evaluate_split}

module _ {A : Type 0} (F : Field A) (L : FieldLaws F) where
  -- the k interleaved parts of f, as one polynomial in r: the sum of Y^j times chunk j
  unfoldable pub collapse : A → List (List A) → List A
  collapse y [] = []
  collapse y (c ∷ cs) = add_poly F c (scale F y (collapse y cs))

  pub collapse_fold : (y r : A) (cs : List (List A)) → evaluate F (collapse y cs) r ≡ evaluate F (map (λ c. evaluate F c r) cs) y
  unfolding collapse
  collapse_fold y r [] = rw (evaluate_nil F, evaluate_nil F)
  collapse_fold y r (c ∷ cs) = evaluate_add F L c (scale F y (collapse y cs)) r ∙ rw (evaluate_scale F L, collapse_fold y r cs, evaluate_cons F)

  pub collapse_chunks : (n k : ℕ) (f : List A) (x : A) → length f ≤ n * k → evaluate F (collapse (power F x k) (chunks n k f)) x ≡ evaluate F f x
  unfolding collapse chunks
  collapse_chunks zero k [] x h = refl
  collapse_chunks zero k (c ∷ cs) x h = absurd (not-suc-le-zero (rw Nat.zero-mul at h))
  collapse_chunks (suc n) k f x h =
      let less : length (drop k f) ≤ n * k = rw length-drop (omega (arith, rw suc-mul at h)) in
      evaluate_add F L (take k f) _ x ∙ rw (evaluate_scale F L, collapse_chunks n k (drop k f) x less) (evaluate_split F L k f x)

  pub length_collapse : (y : A) (n k : ℕ) (f : List A) → length (collapse y (chunks n k f)) ≤ k
  unfolding collapse chunks
  length_collapse y zero k f = zero-le
  length_collapse y (suc n) k f = length_add_le F (take k f) _ k (rw length-take (min-le_left k (length f))) (rw (length_scale F) (length_collapse y n k (drop k f)))
