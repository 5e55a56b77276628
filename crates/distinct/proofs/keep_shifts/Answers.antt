use native.Mathlib.Omega.{arith}
use Prim.Native.Nat.{◌-◌}
use mathlib.Core.Path.{◌∙◌, ap}
use mathlib.Core.List.{[]}
use lib.ListN.{drop_of_length-le}
use Rattle.definition.specs.Field.{spelling_of, number_in}
use Rattle.spelling.specs.ByField.{field_at, elements_at}
use Rattle.spelling.specs.Words.{elements_even}
use Rattle.folds.specs.PointsIn.{shift_in}
use Rattle.distinct.specs.Points.{shift_at}
use Rattle.distinct.proofs.Turns.{keep_start, keep_turn, keep_end, shift_inside}
use Rattle.distinct.proofs.keep_shifts.Goals as goal

pub loop-i-init : goal.loop-i-init
loop-i-init c =
    let a = c.args in
    let n = c.count-at.ensures in
    let S = shift_at a.field a.pw.now a.scale a.k in
    (omega (arith, n), (omega (arith, n), keep_start (field_at a.field).equal 0 S a.shifts.now [] (drop_of_length-le (elements_at a.field a.xs.now) {i = c.count-at.result} (omega (arith, n)))))

pub shift_point-x-requires : goal.shift_point-x-requires
shift_point-x-requires c =
    let l = c.loop-i in
    let a = c.args in
    (shift_inside a.scale a.shifts.now c.requires.in_table.0 (l.i - 1) (omega arith) c.wide.ensures, (c.requires.k_nonzero.1.1, (c.requires.k_nonzero.0, c.requires.k_nonzero.1.0)))

pub keep-at-requires : goal.keep-at-requires
keep-at-requires c =
    let l = c.loop-i in
    let a = c.args in
    (omega (arith, l.invariant, c.requires.in_table.1), omega (arith, elements_even (spelling_of a.field) l.xs a.xs.now l.auto.xs, l.invariant.0))

pub loop-i-preserved : goal.loop-i-preserved
loop-i-preserved c =
    let l = c.loop-i in
    let a = c.args in
    let k = c.keep-at in
    let S = shift_at a.field a.pw.now a.scale a.k in
    let x = c.number.ensures.by_index a.field ∙ ap (number_in (spelling_of a.field)) (c.shift_point-x.ensures.value ∙ ap (shift_in 0 a.pw.now a.scale a.k) c.wide.ensures) in (
      omega (arith, k.ensures.upper_bound, l.invariant),
      (
        omega (arith, k.ensures.upper_bound, l.invariant),
        keep_turn (field_at a.field).equal 0 S a.shifts.now [] l.i (omega arith) (omega arith) l.invariant.1.1 x k.ensures.xs_after,
      ),
    )

pub returns : goal.returns
returns c =
    let l = c.loop-i in
    let a = c.args in record { xs_after = keep_end (field_at a.field).equal 0 (shift_at a.field a.pw.now a.scale a.k) a.shifts.now [] l.i (omega arith) l.invariant.1.1; upper_bound = (l.invariant.0, omega (arith, l.invariant.1.0)) }
