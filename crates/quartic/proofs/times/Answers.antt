use native.Mathlib.Omega.{arith}
use mathlib.Core.Path.{refl}
use Rattle.quartic.proofs.Sums.{small_product}
use Rattle.quartic.proofs.times.Goals as goal

-- `quartic::times` meets its contract. Assumes nothing.
pub overflow_mul-result : goal.overflow_mul-result
overflow_mul-result c =
    let small = small_product {x = c.args.x} {a = c.args.a} c.requires.0 c.requires.1 in
    record { fits = omega (arith, small) }

pub returns : goal.returns
returns c = (refl, small_product c.requires.0 c.requires.1)
