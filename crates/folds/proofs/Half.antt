-- Half the prime and one is the inverse of 2 in each of the three fields, by computation. Assumes nothing.
use Prim.Native.Nat.{ℕ, zero, suc, ◌+◌, ◌/◌}
use mathlib.Core.Path.{◌≡◌, refl}
use mathlib.Core.Option.{some}
use Rattle.definition.specs.Field.{field_of, prime_field, prime_of, digits_within, binary_digits, squaring, power_mod}
use Rattle.folds.specs.OneHalf.{two}

pub half_found : (field : ℕ) → some (prime_of field / 2 + 1) ≡ (field_of field).inverse (two (field_of field))
unfolding two prime_of field_of prime_field digits_within binary_digits squaring power_mod
half_found zero = refl
half_found (suc zero) = refl
half_found (suc (suc field)) = refl
