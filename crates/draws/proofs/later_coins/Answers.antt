use native.Mathlib.Omega.{arith}
use mathlib.Core.Path.{refl, sym}
use lib.Seq.{length-take-le}
use Rattle.algebra.specs.PrimeField.{suited}
use Rattle.list_laws.specs.LentParts.{joined, others_long}
use Rattle.draws.proofs.Joins.{later_coins}
use Rattle.draws.proofs.later_coins.Goals as goal

pub slice_bounds-fill-end-2 : goal.slice_bounds-fill-end-2
slice_bounds-fill-end-2 c = let a = c.args in sym (length-take-le 2 a.out.now (omega arith))

pub fill-next-requires : goal.fill-next-requires
fill-next-requires c = omega (arith, c.modulus.ensures, (suited c.args.field).large)

pub returns : goal.returns
returns c =
    let a = c.args in
    let f = c.fill-next in
    let g = c.fill in
    λ h o e.
    later_coins a.field a.generator.v c.modulus.ensures h e o a.limit
    (joined a.out.now f.new.out 2 c.requires.1 f.auto.out g.new.out refl refl)
    (length-take-le 2 a.out.now c.requires.1) (others_long a.out.now f.new.out 2 c.requires.1 f.auto.out) f.ensures g.ensures
