use native.Mathlib.Omega.{arith}
use mathlib.Core.Path.{◌≡◌}
use Prim.Native.Nat.{◌*◌, ◌%◌}
use Rattle.definition.specs.Field.{prime_of, prime_field}
use Rattle.quartic.proofs.eleven_times.Goals as goal

pub returns : goal.returns
unfolding prime_of prime_field
returns c =
    let e : c.reduce.result ≡ 11 * c.args.x % 2013265921 = c.reduce.ensures in
    (e, omega (arith, e))
