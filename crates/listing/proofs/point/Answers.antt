use mathlib.Core.List.{[], ◌∷◌}
use native.Mathlib.Omega.{arith}
use Rattle.definition.specs.Line.{decimal}
use Rattle.line.specs.Decimal.{long_32}
use Rattle.line.specs.Text.{begun, extends_then}
use Rattle.listing.proofs.point.Goals as goal

pub digits-requires : goal.digits-requires
digits-requires c =
    omega (arith, long_32 c.args.x c.ranges.x.fits)

pub returns : goal.returns
returns c =
    let d = c.digits in
    let p = c.put in
    let e = c.empty in
    let x = decimal c.args.x in (
      begun e.result d.result (32 ∷ x) e.ensures (extends_then e.result p.result d.result (32 ∷ []) x p.ensures d.ensures),
      omega (arith, long_32 c.args.x c.ranges.x.fits),
    )
