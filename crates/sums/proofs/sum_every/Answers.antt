use native.Mathlib.Omega.{arith}
use mathlib.Core.Path.{refl}
use lib.ListN.{length}
use Rattle.definition.specs.Field.{field_of}
use Rattle.sums.specs.AtRoots.{every_nth}
use Rattle.sums.proofs.Halves.{summed_small, summed_all, every_end, every_turn, every_place, every_few}
use Rattle.sums.proofs.sum_every.Goals as goal

pub loop-i-init : goal.loop-i-init
loop-i-init c =
    let a = c.args in
    every_end a.field a.f.now a.from a.stride a.b.now

pub every-x-requires : goal.every-x-requires
every-x-requires c =
    let l = c.loop-i in
    let a = c.args in
    every_place a.from a.stride l.i (length a.b.now) (length a.f.now) (omega arith) (omega arith) (omega arith) (omega arith)

pub overflow_add-high : goal.overflow_add-high
overflow_add-high c =
    let l = c.loop-i in
    let a = c.args in
    let small = summed_small (every_nth (field_of a.field) a.f.now a.from a.stride (length a.b.now)) a.b.now l.i l.high l.low (every_few a.field a.f.now a.from a.stride a.b.now (omega arith)) l.invariant in
    record { fits = omega (arith, small.0, c.high_half-high.ensures.1) }

pub overflow_add-low : goal.overflow_add-low
overflow_add-low c =
    let l = c.loop-i in
    let a = c.args in
    let small = summed_small (every_nth (field_of a.field) a.f.now a.from a.stride (length a.b.now)) a.b.now l.i l.high l.low (every_few a.field a.f.now a.from a.stride a.b.now (omega arith)) l.invariant in
    record { fits = omega (arith, small.1, c.low_half-low.ensures.1) }

pub loop-i-preserved : goal.loop-i-preserved
loop-i-preserved c =
    let l = c.loop-i in
    let a = c.args in
    every_turn a.field a.f.now a.from a.stride a.b.now l.i l.high l.low (omega arith) (omega arith) l.invariant c.every-x.ensures c.high_half-high.ensures c.low_half-low.ensures refl refl

pub whole-requires : goal.whole-requires
whole-requires c =
    let l = c.loop-i in
    let a = c.args in
    (summed_small (every_nth (field_of a.field) a.f.now a.from a.stride (length a.b.now)) a.b.now l.i l.high l.low (every_few a.field a.f.now a.from a.stride a.b.now (omega arith)) l.invariant).1

pub returns : goal.returns
returns c =
    let l = c.loop-i in
    let a = c.args in
    summed_all a.field (every_nth (field_of a.field) a.f.now a.from a.stride (length a.b.now)) a.b.now l.i l.high l.low (omega arith) l.invariant c.whole.ensures
