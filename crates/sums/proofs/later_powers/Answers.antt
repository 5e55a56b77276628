use mathlib.Core.Path.{◌≡◌, refl, sym, subst, ◌∙◌}
use native.Mathlib.Numerals.{add-one}
use native.Mathlib.Omega.{arith}
use lib.ListN.{length, set, length-set}
use Rattle.sums.specs.Sums.{PowersTo}
use Rattle.sums.proofs.PowerSteps.{powers_turn, powers_all}
use Rattle.sums.proofs.later_powers.Goals as goal

pub loop-i-init : goal.loop-i-init
loop-i-init c = (refl, c.requires.1)

pub loop-i-preserved : goal.loop-i-preserved
loop-i-preserved c =
    let l = c.loop-i in
    let a = c.args in
    let size : length l.out ≡ length a.out.now = l.invariant.0 in (
      length-set l.out l.i c.mul.result ∙ size,
      subst (PowersTo a.field a.x (set l.out l.i c.mul.result)) (sym (add-one l.i)) (powers_turn a.field a.x l.out l.i (omega arith) (omega (arith, size)) l.invariant.1 c.mul.ensures),
    )

pub returns : goal.returns
returns c =
    let l = c.loop-i in
    let a = c.args in
    powers_all a.field a.x l.out l.i (length a.out.now) l.invariant.0 (omega arith) (omega (arith, l.invariant.0)) l.invariant.1
