-- The public power of the three fields: x^e modulo p, for all words, with as many turns as e has binary digits. That of field 3 is in PublicField3.
use Rattle.std.specs.Prelude.{ℕ, ◌%◌, ◌^◌, ◌≤◌, ◌<◌, cond, ◌↔◌, ◌≡◌}
use Rattle.std.proofs.Common.{arith, sym, ap, ◌∙◌}
use Rattle.definition.specs.Field.{binary_digits, digits_within, element, field_of, in_field, in_no_field, known_field, power, power_mod, power_of, power_turns_of, powered, prime_of, squaring}
use Rattle.algebra.specs.BinaryDigits.{digits_few, digits_many}
use Rattle.algebra.specs.ModularArithmetic.{pow_mod, power_is}
use Rattle.algebra.specs.PowerBySquaring.{power_mod_is}
use Rattle.algebra.specs.PrimeField.{suited}

field_power : (field x e : ℕ) → power (field_of field) (x % prime_of field) e ≡ x ^ e % prime_of field
unfolding field_of
field_power field x e = power_is (prime_of field) (omega (arith, (suited field).large)) (x % prime_of field) e ∙ pow_mod (prime_of field) x e

pub power_exactly : (field x e : ℕ) → power_of field x e ≡ in_field field (x ^ e % prime_of field)
unfolding power_of
power_exactly field x e = ap (in_field field) (field_power field x e)

pub turns_exactly : (field x e : ℕ) → power_turns_of field x e ≡ cond (known_field field) (powered (x ^ e % prime_of field) (binary_digits e)) in_no_field
unfolding power_turns_of
turns_exactly field x e = ap (λ (y : ℕ). cond (known_field field) (powered y (binary_digits e)) in_no_field) (field_power field x e)

pub digits_exactly : (e d : ℕ) → (binary_digits e ≤ d) ↔ (e < 2 ^ d)
digits_exactly e d = (digits_many d e, digits_few d e)

-- by squaring a power computes, however large its exponent is
by_squaring : (field x e : ℕ) → power_of field x e ≡ in_field field (power_mod x e (prime_of field))
by_squaring field x e = power_exactly field x e ∙ ap (in_field field) (sym (power_mod_is x e (prime_of field)))

pub power_largest : power_of 0 3 4294967295 ≡ element 6
unfolding in_field known_field prime_of power_mod squaring binary_digits digits_within
power_largest = by_squaring 0 3 4294967295
