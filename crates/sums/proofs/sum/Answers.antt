use native.Mathlib.Omega.{arith}
use mathlib.Core.Path.{refl}
use Rattle.sums.proofs.Halves.{summed_end, summed_turn, summed_small, summed_all}
use Rattle.sums.proofs.sum.Goals as goal

pub loop-i-init : goal.loop-i-init
loop-i-init c =
    let a = c.args in
    summed_end a.a.now a.b.now

pub overflow_add-high : goal.overflow_add-high
overflow_add-high c =
    let l = c.loop-i in
    let a = c.args in
    let small = summed_small a.a.now a.b.now l.i l.high l.low (omega arith) l.invariant in
    record { fits = omega (arith, small.0, c.high_half-high.ensures.1) }

pub overflow_add-low : goal.overflow_add-low
overflow_add-low c =
    let l = c.loop-i in
    let a = c.args in
    let small = summed_small a.a.now a.b.now l.i l.high l.low (omega arith) l.invariant in
    record { fits = omega (arith, small.1, c.low_half-low.ensures.1) }

pub loop-i-preserved : goal.loop-i-preserved
loop-i-preserved c =
    let l = c.loop-i in
    let a = c.args in
    summed_turn a.a.now a.b.now l.i l.high l.low (omega arith) (omega arith) (omega arith) l.invariant c.high_half-high.ensures c.low_half-low.ensures refl refl

pub whole-requires : goal.whole-requires
whole-requires c =
    let l = c.loop-i in
    let a = c.args in
    (summed_small a.a.now a.b.now l.i l.high l.low (omega arith) l.invariant).1

pub returns : goal.returns
returns c =
    let l = c.loop-i in
    let a = c.args in
    summed_all a.field a.a.now a.b.now l.i l.high l.low (omega arith) l.invariant c.whole.ensures
