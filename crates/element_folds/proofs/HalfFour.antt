-- 1/2 in field 3 is that of the prime field. Assumes nothing.
use Prim.Native.Nat.{ℕ}
use mathlib.Core.Path.{◌≡◌, refl, ap, ◌∙◌}
use mathlib.Core.Option.{some}
use Rattle.definition.specs.Field.{field_of, prime_field, prime_of, reciprocal, found_or, digits_within, binary_digits, squaring, power_mod, where_found, quartic, embed, quartic_product, norm_first, norm_second, norm, inverse_by}
use Rattle.spelling.specs.Field3.{field3, base}
use Rattle.folds.specs.OneHalf.{two, half_of}

word_half : found_or 0 ((field_of 3).inverse (two (field_of 3))) ≡ 1006632961
unfolding two prime_of field_of prime_field digits_within binary_digits squaring power_mod found_or
word_half = refl

four_half : embed base 1006632961 ≡ half_of field3
unfolding half_of two reciprocal found_or quartic embed quartic_product norm_first norm_second norm inverse_by where_found prime_field digits_within binary_digits squaring power_mod
four_half = refl

pub half_four : {u : ℕ} → some u ≡ (field_of 3).inverse (two (field_of 3)) → embed base u ≡ half_of field3
unfolding found_or
half_four e = ap (embed base) (ap (found_or 0) e ∙ word_half) ∙ four_half
