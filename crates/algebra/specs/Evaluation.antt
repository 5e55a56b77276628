-- Evaluation at a point keeps multiples, sums, products and differences of polynomials.
use Prim.Native.Nat.{ℕ, zero, suc}
use Rattle.std.specs.Prelude.{◌≡◌, take, drop}
use Rattle.std.proofs.Math.Path.{refl, sym}
use Rattle.std.proofs.Common.{◌∙◌}
use mathlib.Core.List.{List, [], ◌∷◌}
use Rattle.definition.specs.Field.{Field, power}
use Rattle.definition.specs.Polynomial.{evaluate, scale, add_poly, sub_poly, mul_poly}
use Rattle.algebra.specs.Laws.{FieldLaws}
use Rattle.algebra.specs.RingLaws.{mul_left_comm, add_swap, add_mul, zero_add, zero_mul, neg_one}

module _ {A : Type 0} (F : Field A) where
  infixl 65 ◌⊕◌
  infixl 70 ◌⊗◌
  open F use {𝟘, ◌⊕◌, ◌⊗◌}

  -- the clauses of evaluate, as equations
  pub evaluate_nil : (x : A) → evaluate F [] x ≡ 𝟘
  unfolding evaluate
  evaluate_nil x = refl

  pub evaluate_cons : (c : A) (cs : List A) (x : A) → evaluate F (c ∷ cs) x ≡ c ⊕ x ⊗ evaluate F cs x
  unfolding evaluate
  evaluate_cons c cs x = refl

module _ {A : Type 0} (F : Field A) (L : FieldLaws F) where
  infixl 65 ◌⊕◌ ◌⊖◌
  infixl 70 ◌⊗◌
  open F use {𝟘, 𝟙, ◌⊕◌, ◌⊖◌, ◌⊗◌}
  open L use {reduce, add_assoc, mul_comm, mul_assoc, mul_add, add_zero, mul_one, mul-zero, sub_def, reduce_zero, reduce_add, reduce_mul}

  pub reduce_evaluate : (f : List A) (x : A) → reduce (evaluate F f x) ≡ evaluate F f x
  unfolding evaluate
  reduce_evaluate [] x = reduce_zero
  reduce_evaluate (c ∷ cs) x = reduce_add c (x ⊗ evaluate F cs x)

  pub evaluate_scale : (a : A) (f : List A) (x : A) → evaluate F (scale F a f) x ≡ a ⊗ evaluate F f x
  unfolding evaluate scale
  evaluate_scale a [] x = sym (mul-zero a)
  evaluate_scale a (c ∷ cs) x = rw (evaluate_scale a cs x, mul_left_comm F L x a (evaluate F cs x), mul_add)

  pub evaluate_add : (f g : List A) (x : A) → evaluate F (add_poly F f g) x ≡ evaluate F f x ⊕ evaluate F g x
  unfolding evaluate add_poly
  evaluate_add [] g x = sym (zero_add F L _ ∙ reduce_evaluate g x)
  evaluate_add (a ∷ f) [] x = sym (add_zero _ ∙ reduce_evaluate (a ∷ f) x)
  evaluate_add (a ∷ f) (b ∷ g) x = rw (evaluate_add f g x, mul_add, add_swap F L)

  pub evaluate_mul : (f g : List A) (x : A) → evaluate F (mul_poly F f g) x ≡ evaluate F f x ⊗ evaluate F g x
  unfolding mul_poly
  evaluate_mul [] g x = rw (evaluate_nil F, zero_mul F L)
  evaluate_mul (a ∷ f) g x =
      rw (evaluate_add (scale F a g) (𝟘 ∷ mul_poly F f g) x, evaluate_scale, evaluate_cons F 𝟘, evaluate_cons F a, add_mul F L, evaluate_mul f g x, zero_add F L, reduce_mul, mul_assoc)

  pub evaluate_sub : (f g : List A) (x : A) → evaluate F (sub_poly F f g) x ≡ evaluate F f x ⊖ evaluate F g x
  unfolding sub_poly
  evaluate_sub f g x = evaluate_add f (scale F (𝟘 ⊖ 𝟙) g) x ∙ rw (evaluate_scale, neg_one F L, ← sub_def)

  pub evaluate_split : (k : ℕ) (f : List A) (x : A) → evaluate F (take k f) x ⊕ power F x k ⊗ evaluate F (drop k f) x ≡ evaluate F f x
  unfolding power
  evaluate_split zero f x = rw (evaluate_nil F, zero_add F L, mul_comm, mul_one, reduce_evaluate, reduce_evaluate)
  evaluate_split (suc k) [] x = rw (evaluate_nil F, mul-zero, add_zero, reduce_zero)
  evaluate_split (suc k) (c ∷ cs) x =
      rw (evaluate_cons F c (take k cs) x, evaluate_cons F c cs x, ← evaluate_split k cs x, mul_add, mul_assoc, add_assoc)
