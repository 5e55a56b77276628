use native.Mathlib.Omega.{arith}
use mathlib.Core.Path.{sym, ◌∙◌}
use Prim.Native.Nat.{◌≤◌}
use lib.ListN.{length}
use lib.Seq.{length-take-le}
use Rattle.list_laws.specs.LentParts.{begun_long, joined, others_long}
use Rattle.batch_front.proofs.front.Goals as goal

-- `batch_front::front` meets its contract: the sheet, and the words after it. Assumes nothing.
pub slice_bounds-copy_from_slice-end : goal.slice_bounds-copy_from_slice-end
slice_bounds-copy_from_slice-end c = omega (arith, c.requires.out_len)

pub slice_bounds-copy_from_slice-end-2 : goal.slice_bounds-copy_from_slice-end-2
slice_bounds-copy_from_slice-end-2 c =
    let a = c.args in
    sym (length-take-le (length a.w.now) a.out.now (omega (arith, c.requires.out_len)))

pub copy_from_slice-requires : goal.copy_from_slice-requires
copy_from_slice-requires c =
    let a = c.args in
    length-take-le (length a.w.now) a.out.now (omega (arith, c.requires.out_len))

pub slice_bounds-after_sheet-count : goal.slice_bounds-after_sheet-count
slice_bounds-after_sheet-count c =
    let a = c.args in
    let y = c.copy_from_slice in
    let l : length a.w.now ≤ length a.out.now = omega (arith, c.requires.out_len) in
    omega (arith, begun_long a.out.now y.new.self (length a.w.now) l y.auto.self, l)

pub slice_bounds-after_sheet-start : goal.slice_bounds-after_sheet-start
slice_bounds-after_sheet-start c =
    let a = c.args in
    let y = c.copy_from_slice in
    let l : length a.w.now ≤ length a.out.now = omega (arith, c.requires.out_len) in
    omega (arith, begun_long a.out.now y.new.self (length a.w.now) l y.auto.self, l)

pub after_sheet-requires : goal.after_sheet-requires
after_sheet-requires c =
    let a = c.args in
    let y = c.copy_from_slice in record { ordered = c.requires.ordered; out_len = others_long a.out.now y.new.self (length a.w.now) (omega (arith, c.requires.out_len)) y.auto.self ∙ omega (arith, c.requires.out_len) }

pub returns : goal.returns
returns c =
    let a = c.args in
    let y = c.copy_from_slice in
    let v = c.after_sheet in
    joined a.out.now y.new.self (length a.w.now) (omega (arith, c.requires.out_len)) y.auto.self v.new.out y.ensures.after v.ensures
