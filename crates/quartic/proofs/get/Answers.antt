use native.Mathlib.Omega.{arith}
use Rattle.spelling.specs.Field3.{field3}
use Rattle.spelling.specs.Words.{quads_at, quads_inside}
use Rattle.quartic.proofs.get.Goals as goal

-- `quartic::get` meets its contract. Assumes nothing.
pub overflow_mul-at : goal.overflow_mul-at
overflow_mul-at c =
    let a = c.args in
    omega (arith, quads_inside a.w.now a.i c.requires)

pub offset_bounds-w-at : goal.offset_bounds-w-at
offset_bounds-w-at c =
    let a = c.args in
    omega (arith, quads_inside a.w.now a.i c.requires)

pub bounds-w-at : goal.bounds-w-at
bounds-w-at c =
    let a = c.args in
    omega (arith, quads_inside a.w.now a.i c.requires)

pub overflow_add-result : goal.overflow_add-result
overflow_add-result c =
    let a = c.args in
    omega (arith, quads_inside a.w.now a.i c.requires)

pub offset_bounds-w-at-2 : goal.offset_bounds-w-at-2
offset_bounds-w-at-2 c =
    let a = c.args in
    omega (arith, quads_inside a.w.now a.i c.requires)

pub bounds-w-at-2 : goal.bounds-w-at-2
bounds-w-at-2 c =
    let a = c.args in
    omega (arith, quads_inside a.w.now a.i c.requires)

pub overflow_add-result-2 : goal.overflow_add-result-2
overflow_add-result-2 c =
    let a = c.args in
    omega (arith, quads_inside a.w.now a.i c.requires)

pub offset_bounds-w-at-3 : goal.offset_bounds-w-at-3
offset_bounds-w-at-3 c =
    let a = c.args in
    omega (arith, quads_inside a.w.now a.i c.requires)

pub bounds-w-at-3 : goal.bounds-w-at-3
bounds-w-at-3 c =
    let a = c.args in
    omega (arith, quads_inside a.w.now a.i c.requires)

pub overflow_add-result-3 : goal.overflow_add-result-3
overflow_add-result-3 c =
    let a = c.args in
    omega (arith, quads_inside a.w.now a.i c.requires)

pub offset_bounds-w-at-4 : goal.offset_bounds-w-at-4
offset_bounds-w-at-4 c =
    let a = c.args in
    omega (arith, quads_inside a.w.now a.i c.requires)

pub bounds-w-at-4 : goal.bounds-w-at-4
bounds-w-at-4 c =
    let a = c.args in
    omega (arith, quads_inside a.w.now a.i c.requires)

pub returns : goal.returns
returns c =
    let a = c.args in
    quads_at a.w.now a.i field3.𝟘 c.requires
