use mathlib.Core.Path.{◌≡◌, sym}
use native.Mathlib.Nat.{mul-le-mul_left, mul-one, le_of_eq}
use native.Mathlib.Omega.{arith}
use Prim.Native.Nat.{◌≤◌}
use lib.ListN.{length}
use Rattle.tables.proofs.Sizes.{one_of}
use Rattle.tables.proofs.Joining.{constant_table, linear_table}
use Rattle.tables.proofs.base.Goals as goal

-- `tables::base` meets its contract. Assumes nothing.
pub offset_bounds-src-from : goal.offset_bounds-src-from
offset_bounds-src-from c =
    let a = c.args in
    let e = one_of a.count (length a.out.now) c.requires.halves.0 c.if-count-le1.true in
    omega (arith, mul-le-mul_left a.stride (le_of_eq (sym e)), mul-one a.stride, c.requires.from_lt_stride.0, c.requires.from_lt_stride.1.0)

pub bounds-src-from : goal.bounds-src-from
bounds-src-from c =
    let a = c.args in
    let e = one_of a.count (length a.out.now) c.requires.halves.0 c.if-count-le1.true in
    omega (arith, mul-le-mul_left a.stride (le_of_eq (sym e)), mul-one a.stride, c.requires.from_lt_stride.0, c.requires.from_lt_stride.1.0)

pub returns-then-count-le1 : goal.returns-then-count-le1
returns-then-count-le1 c =
    let a = c.args in
    let e = one_of a.count (length a.out.now) c.requires.halves.0 c.if-count-le1.true in
    rw (c.fill.ensures.after (λ y h. h), c.reduce.ensures, e) (constant_table a.field a.src.now a.from a.stride a.pw.now a.at a.step (length a.out.now))

pub offset_bounds-src-from-2 : goal.offset_bounds-src-from-2
offset_bounds-src-from-2 c =
    let a = c.args in
    let many : 2 ≤ a.count = omega (arith, c.if-count-le1.false) in
    omega (arith, mul-le-mul_left a.stride many, c.requires.from_lt_stride.0, c.requires.from_lt_stride.1.0)

pub bounds-src-from-2 : goal.bounds-src-from-2
bounds-src-from-2 c =
    let a = c.args in
    let many : 2 ≤ a.count = omega (arith, c.if-count-le1.false) in
    omega (arith, mul-le-mul_left a.stride many, c.requires.from_lt_stride.0, c.requires.from_lt_stride.1.0)

pub overflow_add-from : goal.overflow_add-from
overflow_add-from c =
    let a = c.args in
    let many : 2 ≤ a.count = omega (arith, c.if-count-le1.false) in
    omega (arith, mul-le-mul_left a.stride many, c.requires.from_lt_stride.0, c.requires.from_lt_stride.1.0)

pub offset_bounds-src-from-3 : goal.offset_bounds-src-from-3
offset_bounds-src-from-3 c =
    let a = c.args in
    let many : 2 ≤ a.count = omega (arith, c.if-count-le1.false) in
    omega (arith, mul-le-mul_left a.stride many, c.requires.from_lt_stride.0, c.requires.from_lt_stride.1.0)

pub bounds-src-from-3 : goal.bounds-src-from-3
bounds-src-from-3 c =
    let a = c.args in
    let many : 2 ≤ a.count = omega (arith, c.if-count-le1.false) in
    omega (arith, mul-le-mul_left a.stride many, c.requires.from_lt_stride.0, c.requires.from_lt_stride.1.0)

pub returns : goal.returns
returns c =
    let a = c.args in
    let e : a.count ≡ 2 = omega (arith, c.if-count-le1.false, c.requires.from_lt_stride.1.1) in
    rw e (linear_table a.field a.src.now a.from a.stride a.pw.now a.at a.step a.out.now _ c.linear.ensures)
