use Prim.Native.Nat.{◌+◌, ◌≤◌}
use native.Mathlib.Omega.{arith}
use mathlib.Core.Path.{sym, ◌∙◌}
use lib.ListN.{length}
use lib.Seq.{length-take-le}
use Rattle.definition.specs.Sheet.{edition1, sheet_of}
use Rattle.list_laws.specs.LentParts.{begun_long, joined, others_long}
use Rattle.batches.specs.BatchRules.{tables_few}
use Rattle.batch_front.proofs.after_sheet.Goals as goal

-- `batch_front::after_sheet` meets its contract: the numbers, then the tables and r. Assumes nothing.
pub overflow_add-n : goal.overflow_add-n
overflow_add-n c =
    let a = c.args in
    omega (arith, (tables_few (sheet_of edition1 a.w.now) (length a.bounds.now) a.bounds.now c.requires.ordered.0.ruled).1)

pub slice_bounds-numbers-end : goal.slice_bounds-numbers-end
slice_bounds-numbers-end c = omega (arith, c.requires.out_len)

pub slice_bounds-numbers-end-2 : goal.slice_bounds-numbers-end-2
slice_bounds-numbers-end-2 c =
    let a = c.args in
    sym (length-take-le (length a.bounds.now + 1) a.out.now (omega (arith, c.requires.out_len)))

pub numbers-requires : goal.numbers-requires
numbers-requires c =
    let a = c.args in
    (length-take-le (length a.bounds.now + 1) a.out.now (omega (arith, c.requires.out_len)), (tables_few (sheet_of edition1 a.w.now) (length a.bounds.now) a.bounds.now c.requires.ordered.0.ruled).1)

pub offset_bounds-out-n : goal.offset_bounds-out-n
offset_bounds-out-n c =
    let a = c.args in
    omega (arith, (tables_few (sheet_of edition1 a.w.now) (length a.bounds.now) a.bounds.now c.requires.ordered.0.ruled).1)

pub slice_bounds-tables_and_coin-count : goal.slice_bounds-tables_and_coin-count
slice_bounds-tables_and_coin-count c =
    let a = c.args in
    let y = c.numbers in
    let l : length a.bounds.now + 1 ≤ length a.out.now = omega (arith, c.requires.out_len) in
    omega (arith, begun_long a.out.now y.new.out (length a.bounds.now + 1) l y.auto.out, l)

pub slice_bounds-tables_and_coin-start : goal.slice_bounds-tables_and_coin-start
slice_bounds-tables_and_coin-start c =
    let a = c.args in
    let y = c.numbers in
    let l : length a.bounds.now + 1 ≤ length a.out.now = omega (arith, c.requires.out_len) in
    omega (arith, begun_long a.out.now y.new.out (length a.bounds.now + 1) l y.auto.out, l)

pub tables_and_coin-requires : goal.tables_and_coin-requires
tables_and_coin-requires c =
    let a = c.args in
    let y = c.numbers in record { ordered = c.requires.ordered; out_len = others_long a.out.now y.new.out (length a.bounds.now + 1) (omega (arith, c.requires.out_len)) y.auto.out ∙ omega (arith, c.requires.out_len) }

pub returns : goal.returns
returns c =
    let a = c.args in
    let y = c.numbers in
    let v = c.tables_and_coin in
    joined a.out.now y.new.out (length a.bounds.now + 1) (omega (arith, c.requires.out_len)) y.auto.out v.new.out y.ensures v.ensures
