-- The operations of field 3 at words as they are and at words taken modulo p first: the same. Assumes nothing.
use Prim.Native.Nat.{ℕ, zero, suc, ◌+◌, ◌-◌, ◌%◌}
use native.Mathlib.Nat.{mod-add-mod, add-mod-mod, mod-mod}
use mathlib.Core.Path.{◌≡◌, refl, sym, ap, ◌∙◌}
use Rattle.definition.specs.Field.{Quad, difference3, field_in, power, power3, prime_field, prime_of, product3, quartic, reduced, sum3}
use Rattle.algebra.specs.Field3.{reduce₃}
use Rattle.algebra.specs.Quartic.{quad_path}
use Rattle.spelling.specs.Field3.{field3, laws₃}

pub sum_is : (x y : Quad ℕ) → field3.◌⊕◌ x y ≡ sum3 x y
unfolding sum3 reduced field_in prime_of quartic prime_field
sum_is x y = quad_path (each x.a y.a) (each x.b y.b) (each x.c y.c) (each x.d y.d)
  where
    each : (m n : ℕ) → (m + n) % 2013265921 ≡ (m % 2013265921 + n % 2013265921) % 2013265921
    each m n = sym (mod-add-mod m 2013265921 (n % 2013265921) ∙ add-mod-mod m n 2013265921)

pub difference_is : (x y : Quad ℕ) → field3.◌⊖◌ x y ≡ difference3 x y
unfolding difference3 reduced field_in prime_of quartic prime_field
difference_is x y = quad_path (each x.a y.a) (each x.b y.b) (each x.c y.c) (each x.d y.d)
  where
    each : (m n : ℕ) → (m + (2013265921 - n % 2013265921)) % 2013265921 ≡ (m % 2013265921 + (2013265921 - n % 2013265921 % 2013265921)) % 2013265921
    each m n =
        sym (mod-add-mod m 2013265921 (2013265921 - n % 2013265921 % 2013265921) ∙ ap (λ (r : ℕ). (m + (2013265921 - r)) % 2013265921) (mod-mod n 2013265921))

-- a factor taken modulo p: the second, and the first
second : (x y : Quad ℕ) → field3.◌⊗◌ x (reduced y) ≡ field3.◌⊗◌ x y
second x y = ap (λ (v : Quad ℕ). field3.◌⊗◌ x v) (sym (reduce₃ y)) ∙ laws₃.mul_reduce x y

first : (x y : Quad ℕ) → field3.◌⊗◌ (reduced x) y ≡ field3.◌⊗◌ x y
first x y = laws₃.mul_comm (reduced x) y ∙ second y x ∙ laws₃.mul_comm y x

pub product_is : (x y : Quad ℕ) → field3.◌⊗◌ x y ≡ product3 x y
unfolding product3 field_in prime_of
product_is x y = sym (second (reduced x) y ∙ first x y)

power_reduced : (x : Quad ℕ) (n : ℕ) → power field3 (reduced x) n ≡ power field3 x n
unfolding power
power_reduced x zero = refl
power_reduced x (suc n) = ap (λ (v : Quad ℕ). field3.◌⊗◌ (reduced x) v) (power_reduced x n) ∙ first x (power field3 x n)

pub power_is : (x : Quad ℕ) (n : ℕ) → power field3 x n ≡ power3 x n
unfolding power3 field_in prime_of
power_is x n = sym (power_reduced x n)
