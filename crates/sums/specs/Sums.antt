-- The value of a polynomial as the sum of its coefficients times the powers of x. The definition's geometric polynomial is the list of these powers.
use Prim.Native.Nat.{ℕ, zero, suc, ◌+◌, ◌*◌, ◌%◌, ◌≤◌, ◌<◌, zero-le, suc-le-suc}
use Rattle.std.proofs.Math.Nat.{add-mod, zero-mod}
use Rattle.std.proofs.Common.{arith, ◌∙◌}
use Rattle.std.specs.Prelude.{◌≡◌, get_or}
use Rattle.std.proofs.Math.Path.{refl, sym, ap}
use mathlib.Core.List.{List, [], ◌∷◌}
use Rattle.definition.specs.Field.{Field, prime_field, prime_of, field_of, power}
use Rattle.definition.specs.Polynomial.{evaluate, scale, geometric}
use Rattle.algebra.specs.Laws.{FieldLaws}
use Rattle.algebra.specs.RingLaws.{power_add}
use Rattle.sums.specs.ZeroPadding.{zeros_at}
use Rattle.algebra.specs.Solver.{:0, :1, ◌:+◌, ◌:*◌, ◌:=◌, solve₂, solve₃, solve₄}

module _ {A : Type 0} (F : Field A) where
  infixl 65 ◌⊕◌
  infixl 70 ◌⊗◌
  open F use {𝟘, ◌⊕◌, ◌⊗◌}

  -- the sum of the products, as far as both lists go
  unfoldable pub products : List A → List A → A
  products [] ys = 𝟘
  products (a ∷ xs) [] = 𝟘
  products (a ∷ xs) (b ∷ ys) = a ⊗ b ⊕ products xs ys

-- the same over the natural numbers: what a loop adds up
unfoldable pub products_of : List ℕ → List ℕ → ℕ
products_of [] ys = 0
products_of (a ∷ xs) [] = 0
products_of (a ∷ xs) (b ∷ ys) = a * b + products_of xs ys

-- one remainder at the end
pub products_remainder : (field : ℕ) (xs ys : List ℕ) → products_of xs ys % prime_of field ≡ products (field_of field) xs ys
unfolding products products_of field_of prime_field
products_remainder field [] ys = zero-mod (prime_of field)
products_remainder field (a ∷ xs) [] = zero-mod (prime_of field)
products_remainder field (a ∷ xs) (b ∷ ys) =
    add-mod (a * b) (products_of xs ys) (prime_of field) ∙ ap (λ (s : ℕ). (a * b % prime_of field + s) % prime_of field) (products_remainder field xs ys)

module _ {A : Type 0} (F : Field A) (L : FieldLaws F) where
  infixl 65 ◌⊕◌
  infixl 70 ◌⊗◌
  open F use {𝟘, 𝟙, ◌⊕◌, ◌⊗◌}
  open L use {mul-zero, mul_comm}

  products_scale : (f g : List A) (x : A) → products F f (scale F x g) ≡ x ⊗ products F f g
  unfolding products scale
  products_scale [] g x = sym (mul-zero x)
  products_scale (a ∷ f) [] x = sym (mul-zero x)
  products_scale (a ∷ f) (b ∷ g) x =
      ap (λ (v : A). a ⊗ (x ⊗ b) ⊕ v) (products_scale f g x) ∙ solve₄ F L (λ a b x s. a :* (x :* b) :+ x :* s := x :* (a :* b :+ s)) tt a b x (products F f g)

  -- as far as the shorter list goes, and in either order
  products_nil : (f : List A) → products F f [] ≡ 𝟘
  unfolding products
  products_nil [] = refl
  products_nil (a ∷ f) = refl

  pub products_swap : (f g : List A) → products F f g ≡ products F g f
  unfolding products
  products_swap [] [] = refl
  products_swap [] (b ∷ g) = refl
  products_swap (a ∷ f) [] = refl
  products_swap (a ∷ f) (b ∷ g) = λ i. mul_comm a b i ⊕ products_swap f g i

  -- a polynomial's value, from the powers 1, x, .., x^e, where it has no more coefficients than that
  pub products_powers : (f : List A) (x : A) (e : ℕ) → ((m : ℕ) → suc e ≤ m → get_or f m 𝟘 ≡ 𝟘) → products F f (geometric F x e) ≡ evaluate F f x
  unfolding products geometric evaluate
  products_powers [] x zero h = refl
  products_powers [] x (suc e) h = refl
  products_powers (a ∷ f) x zero h =
      ap (λ (v : A). a ⊗ 𝟙 ⊕ v) (products_nil f) ∙ solve₂ F L (λ a x. a :* :1 :+ :0 := a :+ x :* :0) tt a x
      ∙ ap (λ (v : A). a ⊕ x ⊗ v) (sym (zeros_at F L f x (λ m l. h (suc m) (suc-le-suc zero-le))))
  products_powers (a ∷ f) x (suc e) h =
      ap (λ (v : A). a ⊗ 𝟙 ⊕ v) (products_scale f (geometric F x e) x ∙ ap (λ (v : A). x ⊗ v) (products_powers f x e (λ m l. h (suc m) (suc-le-suc l))))
      ∙ solve₃ F L (λ a x s. a :* :1 :+ x :* s := a :+ x :* s) tt a x (evaluate F f x)

  get_d_scale : (a : A) (f : List A) (i : ℕ) → get_or (scale F a f) i 𝟘 ≡ a ⊗ get_or f i 𝟘
  unfolding scale
  get_d_scale a [] i = sym (mul-zero a)
  get_d_scale a (c ∷ f) zero = refl
  get_d_scale a (c ∷ f) (suc i) = get_d_scale a f i

  -- number i of the powers of x
  pub geometric_power : (x : A) (e i : ℕ) → i ≤ e → get_or (geometric F x e) i 𝟘 ≡ power F x i
  unfolding geometric power
  geometric_power x zero zero h = refl
  geometric_power x zero (suc i) h = absurd (omega arith)
  geometric_power x (suc e) zero h = refl
  geometric_power x (suc e) (suc i) h = get_d_scale x (geometric F x e) i ∙ ap (λ (v : A). x ⊗ v) (geometric_power x e i (omega arith))

  -- each from two before it
  pub power_of_two_lem : (x : A) (i m n : ℕ) → m + n ≡ i → power F x m ⊗ power F x n ≡ power F x i
  power_of_two_lem x i m n e = sym (power_add F L x m n) ∙ ap (power F x) e

-- the first i words are the powers of x
abbrev pub PowersTo : ℕ → ℕ → List ℕ → ℕ → Type 0
PowersTo field x out i = (m : ℕ) → m < i → get_or out m 0 ≡ power (field_of field) x m
