-- What follows from the laws by hand: what the ring solver's own proof needs, and the few laws that are no identities.
-- A law that would end in x where each element has one spelling ends in `reduce x` here.
use Rattle.std.specs.Prelude.{◌≡◌}
use Rattle.std.proofs.Math.Path.{sym, ap, ◌≡⟨◌⟩◌, ◌∎}
use Rattle.std.proofs.Common.{ap₂, ◌∙◌}
use Prim.Native.Nat.{ℕ, zero, suc, ◌+◌}
use Rattle.std.proofs.Math.Nat as N
use Rattle.definition.specs.Field.{Field, power, reciprocal}
use Rattle.algebra.specs.Laws.{FieldLaws}

module _ {A : Type 0} (F : Field A) (L : FieldLaws F) where
  infixl 65 ◌⊕◌ ◌⊖◌
  infixl 70 ◌⊗◌
  open F use {𝟘, 𝟙, ◌⊕◌, ◌⊖◌, ◌⊗◌}
  open L use {reduce, add_comm, add_assoc, mul_comm, mul_assoc, mul_add, add_zero, mul_one, mul-zero, sub_def, neg_add, mul_inverse}
  open L use {reduce_one, reduce_add, reduce_mul, add_reduce}

  -- ---- sums and products

  pub add_left_comm : (x y z : A) → x ⊕ (y ⊕ z) ≡ y ⊕ (x ⊕ z)
  add_left_comm x y z = sym (add_assoc x y z) ∙ ap (λ (v : A). v ⊕ z) (add_comm x y) ∙ add_assoc y x z

  pub mul_left_comm : (x y z : A) → x ⊗ (y ⊗ z) ≡ y ⊗ (x ⊗ z)
  mul_left_comm x y z = sym (mul_assoc x y z) ∙ ap (λ (v : A). v ⊗ z) (mul_comm x y) ∙ mul_assoc y x z

  pub add_swap : (a b c d : A) → (a ⊕ b) ⊕ (c ⊕ d) ≡ (a ⊕ c) ⊕ (b ⊕ d)
  add_swap a b c d = simp (add_assoc, add_left_comm)

  pub mul_swap : (a b c d : A) → (a ⊗ b) ⊗ (c ⊗ d) ≡ (a ⊗ c) ⊗ (b ⊗ d)
  mul_swap a b c d = simp (mul_assoc, mul_left_comm)

  pub add_mul : (x y z : A) → (x ⊕ y) ⊗ z ≡ x ⊗ z ⊕ y ⊗ z
  add_mul x y z = mul_comm (x ⊕ y) z ∙ mul_add z x y ∙ ap₂ ◌⊕◌ (mul_comm z x) (mul_comm z y)

  pub zero_add : (x : A) → 𝟘 ⊕ x ≡ reduce x
  zero_add x = add_comm 𝟘 x ∙ add_zero x

  pub zero_mul : (x : A) → 𝟘 ⊗ x ≡ 𝟘
  zero_mul x = mul_comm 𝟘 x ∙ mul-zero x

  pub one_mul : (x : A) → 𝟙 ⊗ x ≡ reduce x
  one_mul x = mul_comm 𝟙 x ∙ mul_one x

  -- ---- differences

  pub sub_self : (x : A) → x ⊖ x ≡ 𝟘
  sub_self x = sub_def x x ∙ add_comm x (𝟘 ⊖ x) ∙ neg_add x

  pub sub_add : (x y : A) → (x ⊖ y) ⊕ y ≡ reduce x
  sub_add x y = rw (sub_def x y, add_assoc, neg_add, add_zero)

  pub add_sub : (x y : A) → (x ⊕ y) ⊖ y ≡ reduce x
  add_sub x y = rw (sub_def (x ⊕ y) y, add_assoc, ← sub_def y y, sub_self, add_zero)

  pub reduce_sub : (x y : A) → reduce (x ⊖ y) ≡ x ⊖ y
  reduce_sub x y = rw (sub_def x y, reduce_add)

  pub sub_zero : (x y : A) → x ⊖ y ≡ 𝟘 → reduce x ≡ reduce y
  sub_zero x y e = sym (sub_add x y) ∙ ap (λ (v : A). v ⊕ y) e ∙ zero_add y

  pub add_cancel : (x y z : A) → x ⊕ z ≡ y ⊕ z → reduce x ≡ reduce y
  add_cancel x y z e = sym (add_sub x z) ∙ ap (λ (v : A). v ⊖ z) e ∙ add_sub y z

  pub neg_unique : (y x : A) → y ⊕ x ≡ 𝟘 → reduce y ≡ 𝟘 ⊖ x
  neg_unique y x e = add_cancel y (𝟘 ⊖ x) x (e ∙ sym (neg_add x)) ∙ reduce_sub 𝟘 x

  pub neg_one : (x : A) → (𝟘 ⊖ 𝟙) ⊗ x ≡ 𝟘 ⊖ x
  neg_one x = sym (reduce_mul (𝟘 ⊖ 𝟙) x) ∙ neg_unique ((𝟘 ⊖ 𝟙) ⊗ x) x
      (rw (← add_reduce ((𝟘 ⊖ 𝟙) ⊗ x) x, ← one_mul x, ← add_mul, neg_add, zero_mul))

  -- ---- no zero divisors

  pub cancel : (t u : A) → (reduce t ≡ 𝟘 → ⊥) → t ⊗ u ≡ 𝟘 → reduce u ≡ 𝟘
  cancel t u h e =
      reduce u ≡⟨ sym (mul_one u) ⟩
      u ⊗ 𝟙 ≡⟨ ap (λ (v : A). u ⊗ v) (sym (mul_inverse t h)) ⟩
      u ⊗ (t ⊗ reciprocal F t) ≡⟨ sym (mul_assoc u t (reciprocal F t)) ∙ ap (λ (v : A). v ⊗ reciprocal F t) (mul_comm u t ∙ e) ⟩
      𝟘 ⊗ reciprocal F t ≡⟨ zero_mul (reciprocal F t) ⟩
      𝟘 ∎

  -- ---- powers

  pub reduce_power : (x : A) (n : ℕ) → reduce (power F x n) ≡ power F x n
  unfolding power
  reduce_power x zero = reduce_one
  reduce_power x (suc n) = reduce_mul x (power F x n)

  pub power_add : (x : A) (m n : ℕ) → power F x (m + n) ≡ power F x m ⊗ power F x n
  unfolding power
  power_add x zero n = ap (power F x) (N.zero-add n) ∙ sym (one_mul (power F x n) ∙ reduce_power x n)
  power_add x (suc m) n =
      ap (power F x) (N.suc-add m n) ∙ ap (λ (v : A). x ⊗ v) (power_add x m n) ∙ sym (mul_assoc x (power F x m) (power F x n))
