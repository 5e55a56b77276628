use mathlib.Core.List.{[], ◌∷◌, ◌++◌}
use native.Mathlib.Omega.{arith}
use Rattle.definition.specs.Line.{decimal}
use Rattle.line.specs.Decimal.{long_64}
use Rattle.line.specs.Text.{begun, extends_then}
use Rattle.listing.proofs.head.Goals as goal

pub digits-requires : goal.digits-requires
digits-requires c =
    omega (arith, long_64 c.args.i c.ranges.i.fits)

pub put-requires : goal.put-requires
put-requires c =
    omega (arith, long_64 c.args.i c.ranges.i.fits)

pub returns : goal.returns
returns c =
    let p = c.put in
    let d = c.digits in
    let t = c.text in
    let e = c.empty in
    let i = decimal c.args.i in
    let numbered = extends_then t.result d.result p.result i (58 ∷ []) d.ensures p.ensures in (
      begun e.result p.result _ e.ensures
          (extends_then e.result t.result p.result _ (i ++ (58 ∷ [])) t.ensures numbered),
      omega (arith, long_64 c.args.i c.ranges.i.fits),
    )
