use native.Mathlib.Omega.{arith}
use lib.ListN.{length}
use Rattle.algebra.specs.PrimeField.{suited}
use Rattle.draws.proofs.Joins.{elements}
use Rattle.draws.proofs.coefficients.Goals as goal

pub fill-requires : goal.fill-requires
fill-requires c = omega (arith, c.modulus.ensures, (suited c.args.field).large)

pub returns : goal.returns
returns c =
    let a = c.args in
    λ h e. elements a.field a.generator.v c.modulus.ensures h e (length a.out.now) c.fill.ensures
