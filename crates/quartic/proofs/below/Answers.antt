use native.Mathlib.Omega.{arith}
use mathlib.Core.Path.{◌≡◌}
use Prim.Native.Nat.{◌%◌}
use Rattle.definition.specs.Field.{prime_of}
use Rattle.quartic.proofs.below.Goals as goal

pub returns : goal.returns
unfolding prime_of
returns c =
    let e : c.reduce.result ≡ c.args.x % 2013265921 = c.reduce.ensures in
    (e, omega (arith, e))
