-- The three primes are above 0 and fit into 31 bits.
use Rattle.std.specs.Prelude.{ℕ, zero, suc, ◌≤◌, ◌<◌}
use Rattle.std.proofs.Common.{lit≤}
use Rattle.definition.specs.Field.{prime_of}

pub prime_small : (field : ℕ) → prime_of field ≤ 2013265921
unfolding prime_of
prime_small zero = lit≤ tt
prime_small (suc zero) = lit≤ tt
prime_small (suc (suc field)) = lit≤ tt

pub prime_some : (field : ℕ) → 0 < prime_of field
unfolding prime_of
prime_some zero = lit≤ tt
prime_some (suc zero) = lit≤ tt
prime_some (suc (suc field)) = lit≤ tt
