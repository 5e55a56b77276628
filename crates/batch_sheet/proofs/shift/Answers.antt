use native.Mathlib.Omega.{arith}
use Rattle.definition.specs.Sheet.{edition1, sheet_of}
use Rattle.batch_sheet.proofs.SizeLaws.{shift_is, shift_small}
use Rattle.batch_sheet.proofs.shift.Goals as goal

pub overflow_cast-size : goal.overflow_cast-size
overflow_cast-size c = omega (arith, c.shared_slice_known-2-1.given 1)

pub overflow_mul-count : goal.overflow_mul-count
unfolding sheet_of
overflow_mul-count c =
    omega (arith, (shift_small (sheet_of edition1 c.args.w.now) c.args.count c.requires.le_count.0 c.requires.le_count.1.0 c.requires.le_count.1.1).0)

pub overflow_add-count : goal.overflow_add-count
unfolding sheet_of
overflow_add-count c =
    omega (arith, (shift_small (sheet_of edition1 c.args.w.now) c.args.count c.requires.le_count.0 c.requires.le_count.1.0 c.requires.le_count.1.1).0)

pub words-requires : goal.words-requires
unfolding sheet_of
words-requires c =
    omega (arith, (shift_small (sheet_of edition1 c.args.w.now) c.args.count c.requires.le_count.0 c.requires.le_count.1.0 c.requires.le_count.1.1).0)

pub overflow_add-result-2 : goal.overflow_add-result-2
unfolding sheet_of
overflow_add-result-2 c =
    omega (arith, c.words.ensures.0, c.requires.le_count.1.0, (shift_small (sheet_of edition1 c.args.w.now) c.args.count c.requires.le_count.0 c.requires.le_count.1.0 c.requires.le_count.1.1).1)

pub returns : goal.returns
unfolding sheet_of
returns c =
    let h = sheet_of edition1 c.args.w.now in
    let small = shift_small h c.args.count c.requires.le_count.0 c.requires.le_count.1.0 c.requires.le_count.1.1 in
    (shift_is h c.args.count c.requires.le_count.0 c.words.ensures.0, omega (arith, c.words.ensures.0, c.requires.le_count.1.0, small.1))
