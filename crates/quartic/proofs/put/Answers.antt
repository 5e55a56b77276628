use native.Mathlib.Omega.{arith}
use lib.ListN.{length-set}
use Rattle.quartic.specs.Meaning.{quad_of}
use Rattle.spelling.specs.Words.{quads_set, quads_inside}
use Rattle.quartic.proofs.put.Goals as goal

-- `quartic::put` meets its contract. Assumes nothing.
pub overflow_mul-at : goal.overflow_mul-at
overflow_mul-at c =
    let a = c.args in
    omega (arith, quads_inside a.w.now a.i c.requires)

pub offset_bounds-w-at : goal.offset_bounds-w-at
offset_bounds-w-at c =
    let a = c.args in
    omega (arith, quads_inside a.w.now a.i c.requires)

pub bounds-w-at : goal.bounds-w-at
bounds-w-at c =
    let a = c.args in
    omega (arith, quads_inside a.w.now a.i c.requires)

pub overflow_add-w : goal.overflow_add-w
overflow_add-w c =
    let a = c.args in
    omega (arith, quads_inside a.w.now a.i c.requires)

pub offset_bounds-w-at-2 : goal.offset_bounds-w-at-2
offset_bounds-w-at-2 c =
    let a = c.args in
    omega (arith, quads_inside a.w.now a.i c.requires)

pub bounds-w-at-2 : goal.bounds-w-at-2
bounds-w-at-2 c =
    let a = c.args in
    rw length-set (omega (arith, quads_inside a.w.now a.i c.requires))

pub overflow_add-w-2 : goal.overflow_add-w-2
overflow_add-w-2 c =
    let a = c.args in
    omega (arith, quads_inside a.w.now a.i c.requires)

pub offset_bounds-w-at-3 : goal.offset_bounds-w-at-3
offset_bounds-w-at-3 c =
    let a = c.args in
    omega (arith, quads_inside a.w.now a.i c.requires)

pub bounds-w-at-3 : goal.bounds-w-at-3
bounds-w-at-3 c =
    let a = c.args in
    rw (length-set, length-set) (omega (arith, quads_inside a.w.now a.i c.requires))

pub overflow_add-w-3 : goal.overflow_add-w-3
overflow_add-w-3 c =
    let a = c.args in
    omega (arith, quads_inside a.w.now a.i c.requires)

pub offset_bounds-w-at-4 : goal.offset_bounds-w-at-4
offset_bounds-w-at-4 c =
    let a = c.args in
    omega (arith, quads_inside a.w.now a.i c.requires)

pub bounds-w-at-4 : goal.bounds-w-at-4
bounds-w-at-4 c =
    let a = c.args in
    rw (length-set, length-set, length-set) (omega (arith, quads_inside a.w.now a.i c.requires))

pub returns : goal.returns
returns c =
    let a = c.args in
    quads_set a.w.now a.i (quad_of a.x) c.requires
