use native.Mathlib.Omega.{arith}
use Rattle.elements.proofs.Cases.{part_fits, part_is}
use Rattle.elements.proofs.part.Goals as goal

pub overflow_mul-result : goal.overflow_mul-result
overflow_mul-result c =
    let a = c.args in
    omega (arith, part_fits a.field a.from a.count a.w.now c.requires (c.width-size.ensures.0 a.from) (c.width-size.ensures.0 a.count))

pub overflow_mul-result-2 : goal.overflow_mul-result-2
overflow_mul-result-2 c =
    let a = c.args in
    omega (arith, part_fits a.field a.from a.count a.w.now c.requires (c.width-size.ensures.0 a.from) (c.width-size.ensures.0 a.count))

pub overflow_mul-result-3 : goal.overflow_mul-result-3
overflow_mul-result-3 c =
    let a = c.args in
    omega (arith, part_fits a.field a.from a.count a.w.now c.requires (c.width-size.ensures.0 a.from) (c.width-size.ensures.0 a.count))

pub overflow_add-result : goal.overflow_add-result
overflow_add-result c =
    let a = c.args in
    omega (arith, part_fits a.field a.from a.count a.w.now c.requires (c.width-size.ensures.0 a.from) (c.width-size.ensures.0 a.count))

pub offset_bounds-w-size : goal.offset_bounds-w-size
offset_bounds-w-size c =
    let a = c.args in
    omega (arith, part_fits a.field a.from a.count a.w.now c.requires (c.width-size.ensures.0 a.from) (c.width-size.ensures.0 a.count))

pub slice_bounds-result-end : goal.slice_bounds-result-end
slice_bounds-result-end c =
    let a = c.args in
    omega (arith, part_fits a.field a.from a.count a.w.now c.requires (c.width-size.ensures.0 a.from) (c.width-size.ensures.0 a.count))

pub returns : goal.returns
returns c =
    let a = c.args in
    part_is a.field a.from a.count a.w.now (c.width-size.ensures.0 a.from) (c.width-size.ensures.0 a.count)
