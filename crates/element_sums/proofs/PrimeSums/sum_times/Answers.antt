use native.Mathlib.Omega.{arith}
use native.Mathlib.Nat.{mod-lt, mul-le-mul}
use mathlib.Core.Path.{◌≡◌, sym, ◌∙◌}
use Prim.Native.Nat.{ℕ, ◌+◌, ◌*◌, ◌≤◌, ◌<◌}
use borrow.Author.Rules.{rules}
use Rattle.definition.specs.Field.{prime_field, prime_of, field_of}
use Rattle.algebra.specs.ModularArithmetic.{mod_mul}
use Rattle.algebra.specs.PrimeField.{laws}
use Rattle.sums.specs.Primes.{prime_small, prime_some}
use Rattle.element_sums.proofs.PrimeSums.sum_times.Goals as goal

-- what is in range is below p
below : (field y : ℕ) → (laws field).reduce y ≡ y → y < prime_of field
unfolding field_of prime_field
below field y e = omega (arith, e, (laws field).mul_one y, mod-lt (y * 1) (prime_some field))

-- the product of a remainder and of the sum of a word and a remainder
fits : (field : ℕ) {x d y : ℕ} → x < 4294967296 → d < prime_of field → y < prime_of field → (x + d) * y ≤ 17293822577692639232
fits field {x} {d} {y} hx hd hy =
    let small = prime_small field in
    let few : x + d ≤ 8589934592 = omega arith in
    let less : y ≤ 2013265921 = omega arith in
    mul-le-mul few less

pub overflow_mul-x : goal.overflow_mul-x
overflow_mul-x c =
    let field = c.args.self.field in
    record { fits = omega (arith, fits field {x = c.args.x} (search rules) (below field c.args.d c.requires.0) (below field c.args.y c.requires.1)) }

pub returns : goal.returns
unfolding field_of prime_field
returns c = c.reduce.ensures ∙ sym (mod_mul (prime_of c.args.self.field) (c.args.x + c.args.d) c.args.y)
