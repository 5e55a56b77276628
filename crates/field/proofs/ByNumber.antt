-- The definition's fields by number: which number names one, its prime, and its operations at words as they are and at words reduced first.
-- Assumes nothing.
use mathlib.Core.Path.{◌≡◌, refl, ◌∙◌, sym, ap}
use Prim.Native.Nat.{ℕ, zero, suc, ◌+◌, ◌-◌, ◌%◌, ◌^◌, ◌<◌, ◌≤◌}
use native.Mathlib.Nat.{mod-add-mod, add-mod-mod, mod-mod}
use native.Mathlib.Omega.{arith}
use mathlib.Core.Bool.{cond}
use mathlib.Core.Option.{Option, none, some}
use borrow.Author.Tests.{lt-ltb, le-ltb, eq-eqb, ne_eqb}
use lib.Dec.{eqb, lit<}
use Rattle.definition.specs.Field.{binary_digits, power_mod, prime_field, power, known_field, prime_of, field_of, FieldAnswer, element, no_field, in_field, powered, in_no_field, answer_found, unknown_field, sum, difference, product, power_of, power_turns_of, inverse_of}
use Rattle.algebra.specs.ModularArithmetic.{mod_mul, mul_mod, pow_mod, power_is}
use Rattle.algebra.specs.PowerBySquaring.{power_mod_is}

pub known : (field x : ℕ) → field < 3 → element x ≡ in_field field x
unfolding in_field known_field
known field x h = simp (lt-ltb field 3 h)

pub unknown : (field x : ℕ) → 3 ≤ field → no_field ≡ in_field field x
unfolding in_field known_field
unknown field x h = simp (le-ltb field 3 h)

pub last_prime : (field : ℕ) → (field ≡ 0 → ⊥) → (field ≡ 1 → ⊥) → 2013265921 ≡ prime_of field
unfolding prime_of
last_prime zero h k = absurd (h refl)
last_prime (suc zero) h k = absurd (k refl)
last_prime (suc (suc field)) h k = refl

pub prime_big : (field : ℕ) → 1 < prime_of field
unfolding prime_of
prime_big zero = lit< tt
prime_big (suc zero) = lit< tt
prime_big (suc (suc field)) = lit< tt

pub power_by : (field a n : ℕ) → power (field_of field) a n ≡ a ^ n % prime_of field
unfolding field_of
power_by field a n = power_is (prime_of field) (prime_big field) a n

-- A multiple k of the three primes stands in for the definition's p - b % p, so that a difference takes one remainder.
pub sub_is : (field a b : ℕ) {k r : ℕ} → r ≡ (a + k - b) % prime_of field → b ≤ k → k % 17 ≡ 0 → k % 65537 ≡ 0 → k % 2013265921 ≡ 0 → r ≡ (field_of field).◌⊖◌ a b
unfolding prime_of field_of prime_field
sub_is zero a b e h k₀ k₁ k₂ = omega arith
sub_is (suc zero) a b e h k₀ k₁ k₂ = omega arith
sub_is (suc (suc field)) a b e h k₀ k₁ k₂ = omega arith

-- the inverse: none for 0, else a power
pub inverse_none : (field a : ℕ) {x : ℕ} → x ≡ a % prime_of field → x ≡ 0 → none ≡ (field_of field).inverse a
unfolding field_of prime_field
inverse_none field a ex z = simp (eq-eqb (a % prime_of field) 0 (sym ex ∙ z))

pub inverse_is : (field a : ℕ) {x r : ℕ} → x ≡ a % prime_of field → (x ≡ 0 → ⊥) → r ≡ power (field_of field) a (prime_of field - 2) → some r ≡ (field_of field).inverse a
unfolding field_of prime_field
inverse_is field a ex h er =
    ap {B = Option ℕ} some (er ∙ power_by field a (prime_of field - 2) ∙ sym (power_mod_is a (prime_of field - 2) (prime_of field)))
    ∙ simp (ne_eqb (a % prime_of field) 0 (λ z. h (ex ∙ z)))

-- A public operation reduces its words first; the operations do not see it. So what a leaf gives, answered, is what the operation answers.
module _ (field x : ℕ) where
  abbrev p : ℕ
  p = prime_of field

  answered : {s t : ℕ} {o : FieldAnswer} → s ≡ t → o ≡ in_field field s → o ≡ in_field field t
  answered e q = q ∙ ap (in_field field) e

  pub sum_is : (y : ℕ) {s : ℕ} {o : FieldAnswer} → s ≡ (field_of field).◌⊕◌ x y → o ≡ in_field field s → o ≡ sum field x y
  unfolding field_of prime_field sum
  sum_is y e = answered (e ∙ sym (mod-add-mod x p (y % p) ∙ add-mod-mod x y p))

  pub difference_is : (y : ℕ) {s : ℕ} {o : FieldAnswer} → s ≡ (field_of field).◌⊖◌ x y → o ≡ in_field field s → o ≡ difference field x y
  unfolding field_of prime_field difference
  difference_is y e = answered (e ∙ sym (mod-add-mod x p (p - y % p % p) ∙ ap (λ (n : ℕ). (x + (p - n)) % p) (mod-mod y p)))

  pub product_is : (y : ℕ) {s : ℕ} {o : FieldAnswer} → s ≡ (field_of field).◌⊗◌ x y → o ≡ in_field field s → o ≡ product field x y
  unfolding field_of prime_field product
  product_is y e = answered (e ∙ sym (mod_mul p x (y % p) ∙ mul_mod p x y))

  -- the power of a word is that of the word reduced
  power_reduced : (n : ℕ) → power (field_of field) x n ≡ power (field_of field) (x % p) n
  power_reduced n = power_by field x n ∙ sym (power_by field (x % p) n ∙ pow_mod p x n)

  pub power_of_is : (n : ℕ) {s : ℕ} {o : FieldAnswer} → s ≡ power (field_of field) x n → o ≡ in_field field s → o ≡ power_of field x n
  unfolding power_of
  power_of_is n e = answered (e ∙ power_reduced n)

  pub power_turns_is : (n : ℕ) {s t : ℕ} → field < 3 → s ≡ power (field_of field) x n → t ≡ binary_digits n → powered s t ≡ power_turns_of field x n
  unfolding power_turns_of known_field
  power_turns_is n {s} {t} h e k = (λ i. powered ((e ∙ power_reduced n) i) (k i)) ∙ simp (lt-ltb field 3 h)

  pub power_turns_unknown : (n : ℕ) → 3 ≤ field → in_no_field ≡ power_turns_of field x n
  unfolding power_turns_of known_field
  power_turns_unknown n h = simp (le-ltb field 3 h)

  -- the inverse of a word is that of the word reduced
  inverse_reduced : (field_of field).inverse x ≡ (field_of field).inverse (x % p)
  unfolding field_of prime_field
  inverse_reduced =
      let reduced : power_mod x (p - 2) p ≡ power_mod (x % p) (p - 2) p = power_mod_is x (p - 2) p ∙ sym (power_mod_is (x % p) (p - 2) p ∙ pow_mod p x (p - 2)) in
      λ i. cond (eqb (sym (mod-mod x p) i) 0) none (some (reduced i))

  pub inverse_of_is : {o : Option ℕ} → field < 3 → o ≡ (field_of field).inverse x → answer_found o ≡ inverse_of field x
  unfolding inverse_of known_field
  inverse_of_is h e = ap answer_found (e ∙ inverse_reduced) ∙ simp (lt-ltb field 3 h)

  pub inverse_unknown : 3 ≤ field → unknown_field ≡ inverse_of field x
  unfolding inverse_of known_field
  inverse_unknown h = simp (le-ltb field 3 h)
