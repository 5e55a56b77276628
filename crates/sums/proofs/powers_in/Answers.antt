use native.Mathlib.Omega.{arith}
use mathlib.Core.Path.{refl}
use lib.ListN.{length}
use Rattle.definition.specs.Field.{field_of, power}
use Rattle.sums.proofs.PowerSteps.{powers_all, turning_first, turning_next}
use Rattle.sums.proofs.powers_in.Goals as goal

pub loop-x-init : goal.loop-x-init
loop-x-init c = turning_first c.args.pw.now c.args.s c.args.out.now c.requires.0

pub offset_bounds-pw-place : goal.offset_bounds-pw-place
offset_bounds-pw-place c = omega (arith, c.loop-x.invariant.inside)

pub bounds-pw-place : goal.bounds-pw-place
bounds-pw-place c = omega (arith, c.loop-x.invariant.inside)

pub further-place-requires : goal.further-place-requires
further-place-requires c = (c.loop-x.invariant.inside, (c.requires.1.1.0, c.requires.1.0))

pub loop-x-preserved : goal.loop-x-preserved
loop-x-preserved c =
    let l = c.loop-x in
    let a = c.args in
    turning_next a.pw.now a.s l.out l.place l.x-index (omega arith) l.invariant refl c.further-place.ensures

pub returns : goal.returns
returns c =
    let l = c.loop-x in
    let a = c.args in
    λ field ω w. powers_all field (power (field_of field) ω a.s) l.out l.x-index (length a.out.now) (omega arith) c.requires.1.1.1 (omega arith) (l.invariant.passed field ω w)
