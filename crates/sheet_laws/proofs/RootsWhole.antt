-- Roots of unity in any field with the laws: n different ones, where n is not 0, are all, since X^n - 1 has no more than n roots.
use Prim.Native.Nat.{ℕ, zero, suc, ◌<◌}
use Rattle.std.proofs.Common.{arith, ◌∙◌}
use Rattle.std.specs.Prelude.{Bool, true, false, List, [], ◌∷◌, ◌++◌, ◌≡◌, refl, length, replicate}
use Rattle.std.proofs.Math.Path.{sym, ap}
use Rattle.std.proofs.Math.ListN.{length-append, length-replicate}
use Rattle.definition.specs.Field.{Field, power}
use Rattle.definition.specs.Lists.{member}
use Rattle.definition.specs.Polynomial.{evaluate}
use Rattle.list_laws.specs.All.{All, all_map, all_map₂}
use Rattle.list_laws.specs.Members.{none_same}
use Rattle.algebra.specs.Different.{Apart}
use Rattle.algebra.specs.Evaluation.{evaluate_cons, evaluate_nil}
use Rattle.algebra.specs.Interpolation.{agree}
use Rattle.algebra.specs.Laws.{FieldLaws}
use Rattle.algebra.specs.RingLaws.{zero_add, zero_mul}
use Rattle.algebra.specs.RootsOfUnity.{power_suc, power_zero}
use Rattle.completeness.specs.DistinctPoints.{unequal_differ}

module _ {A : Type 0} (F : Field A) (L : FieldLaws F) where
  infixl 65 ◌⊕◌
  infixl 70 ◌⊗◌
  open F use {𝟘, 𝟙, ◌⊕◌, ◌⊗◌, equal}
  open L use {reduce, add_zero, mul-zero, reduce_one, reduce_mul, one≢zero}

  -- the polynomials 1 and X^n
  constant : (x : A) → evaluate F (𝟙 ∷ []) x ≡ 𝟙
  constant x = evaluate_cons F 𝟙 [] x ∙ rw (evaluate_nil F x, mul-zero, add_zero, reduce_one)

  monomial : ℕ → List A
  monomial n = replicate n 𝟘 ++ (𝟙 ∷ [])

  value : (n : ℕ) (x : A) → evaluate F (monomial n) x ≡ power F x n
  unfolding monomial
  value zero x = constant x ∙ sym (power_zero F L x)
  value (suc n) x = evaluate_cons F 𝟘 (monomial n) x ∙ zero_add F L (x ⊗ evaluate F (monomial n) x) ∙ reduce_mul x _ ∙ ap (λ (y : A). x ⊗ y) (value n x) ∙ sym (power_suc F L x n)

  length_monomial : (n : ℕ) → length (monomial n) ≡ suc n
  unfolding monomial
  length_monomial n = omega (arith, length-append (replicate n 𝟘) (𝟙 ∷ []), length-replicate n 𝟘)

  -- n different n-th roots of 1 among which x is not leave no place for x
  pub roots_whole : (n : ℕ) (xs : List A) → 0 < n → length xs ≡ n → Apart F xs → All (λ a. (reduce a ≡ a) × (power F a n ≡ 𝟙)) xs →
      (x : A) → reduce x ≡ x → power F x n ≡ 𝟙 → member equal x xs ≡ true
  roots_whole zero xs some size apart roots x element root = absurd (omega arith)
  roots_whole (suc n) xs some size apart roots x element root = go (member equal x xs) refl
    where
      at_root : (a : A) → power F a (suc n) ≡ 𝟙 → evaluate F (monomial (suc n)) a ≡ evaluate F (𝟙 ∷ []) a
      at_root a e = value (suc n) a ∙ e ∙ sym (constant a)

      go : (b : Bool) → member equal x xs ≡ b → b ≡ true
      go true e = refl
      go false e = absurd (one≢zero
          (sym (constant 𝟘)
          ∙ sym (agree F L (x ∷ xs) (monomial (suc n)) (𝟙 ∷ []) (omega (arith, size, length_monomial (suc n))) (omega arith)
          (all_map₂ xs roots (none_same equal x xs e) (λ a r d. unequal_differ F L x a element r.0 d), apart)
          (at_root x root, all_map xs roots (λ a r. at_root a r.1)) 𝟘)
          ∙ value (suc n) 𝟘 ∙ power_suc F L 𝟘 n ∙ zero_mul F L (power F 𝟘 n)))
