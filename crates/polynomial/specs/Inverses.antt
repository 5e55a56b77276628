-- The inverses of two elements from that of their product. In the three fields an inverse is reduced.
use Prim.Native.Nat.{ℕ}
use Rattle.std.proofs.Common.{◌∙◌}
use Rattle.std.specs.Prelude.{◌≡◌}
use Rattle.std.proofs.Math.Option.{Option, some}
use Rattle.std.proofs.Math.Path.{sym, ap, ◌≡⟨◌⟩◌, ◌∎}
use Rattle.definition.specs.Field.{Field, field_of, found_or, reciprocal}
use Rattle.algebra.specs.Divisors as divisors
use Rattle.algebra.specs.Divisors.{found_differs}
use Rattle.algebra.specs.Laws.{FieldLaws}
use Rattle.algebra.specs.PrimeField.{laws}
use Rattle.algebra.specs.RingLaws.{one_mul}
use Rattle.field.specs.OneWord.{reduced_by_one}

module _ {A : Type 0} (F : Field A) (L : FieldLaws F) (reduced : (x : A) → L.reduce (reciprocal F x) ≡ reciprocal F x) where
  infixl 70 ◌⊗◌
  open F use {𝟘, 𝟙, ◌⊗◌, inverse}
  open L use {reduce, mul_comm, mul_assoc, mul_one, mul-zero, mul_reduce, reduce_mul, one≢zero, mul_inverse, inverse_found}

  -- what has the product 1 with another element is not zero
  unit_not_zero : (x y : A) → x ⊗ y ≡ 𝟙 → reduce x ≡ 𝟘 → ⊥
  unit_not_zero x y e z =
      one≢zero (sym e ∙ mul_comm x y ∙ sym (mul_reduce y x) ∙ ap (λ (v : A). y ⊗ v) z ∙ mul-zero y)

  -- the inverse is the one reduced element whose product with x is 1
  inverse_unique : (x y : A) → x ⊗ y ≡ 𝟙 → inverse x ≡ some (reduce y)
  inverse_unique x y e =
      inverse_found x (unit_not_zero x y e) ∙ ap {B = Option A} some (sym (
      reduce y ≡⟨ sym (mul_one y) ⟩
      y ⊗ 𝟙 ≡⟨ ap (λ (v : A). y ⊗ v) (sym (mul_inverse x (unit_not_zero x y e))) ⟩
      y ⊗ (x ⊗ reciprocal F x) ≡⟨ sym (mul_assoc y x (reciprocal F x)) ∙ ap (λ (v : A). v ⊗ reciprocal F x) (mul_comm y x ∙ e) ⟩
      𝟙 ⊗ reciprocal F x ≡⟨ one_mul F L (reciprocal F x) ∙ reduced x ⟩
      reciprocal F x ∎))

  -- where the product m of a and b has the inverse u, that of a is u times b
  pub inverse_first : (a b : A) {m u : A} → m ≡ a ⊗ b → inverse m ≡ some u → inverse a ≡ some (u ⊗ b)
  unfolding found_or reciprocal
  inverse_first a b {m} {u} em eu =
      let h : reduce m ≡ 𝟘 → ⊥ = found_differs F L m eu in
      let v : u ≡ reciprocal F m = ap (found_or 𝟘) (sym eu ∙ inverse_found m h) in
      inverse_unique a (u ⊗ b)
      (ap (λ (y : A). a ⊗ y) (mul_comm u b) ∙ sym (mul_assoc a b u) ∙ ap (λ (y : A). y ⊗ u) (sym em) ∙ ap (λ (y : A). m ⊗ y) v ∙ mul_inverse m h)
      ∙ ap {B = Option A} some (reduce_mul u b)

  pub inverse_second : (a b : A) {m u : A} → m ≡ a ⊗ b → inverse m ≡ some u → inverse b ≡ some (u ⊗ a)
  inverse_second a b em eu = inverse_first b a (em ∙ mul_comm a b) eu

module _ {A : Type 0} (F : Field A) (L : FieldLaws F) where
  -- the answer for an element that differs from 0
  pub found_is : (x : A) {u : A} → divisors.Nonzero F L x → some u ≡ F.inverse x → u ≡ reciprocal F x
  unfolding found_or
  found_is x h e = ap (found_or F.𝟘) (e ∙ L.inverse_found x h)

-- ---- the three fields

-- x differs from 0
abbrev pub Nonzero : ℕ → ℕ → Type 0
Nonzero field x = divisors.Nonzero (field_of field) (laws field) x

module _ (field : ℕ) where
  pub inverse_reduced : (x : ℕ) → (laws field).reduce (reciprocal (field_of field) x) ≡ reciprocal (field_of field) x
  inverse_reduced x = reduced_by_one field x
