-- The ω of n0 = 4096 in field 2 as a numeral. Assumes nothing.
use mathlib.Core.Path.{◌≡◌, sym}
use Rattle.definition.specs.Field.{digits_within, binary_digits, squaring, power_mod, prime_of, generator_of}
use Rattle.algebra.specs.PowerBySquaring.{power_mod_is}
use Rattle.powers.specs.Root.{root}

-- worked out by squaring
pub root_is : root 2 4096 ≡ 1282623253
unfolding root prime_of generator_of digits_within binary_digits squaring power_mod
root_is = sym (power_mod_is 31 491520 2013265921)
