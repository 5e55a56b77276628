use native.Mathlib.Omega.{arith}
use lib.ListN.{length}
use Rattle.definition.specs.Sheet.{edition1, sheet_of}
use Rattle.batches.specs.BatchRules.{entries_few, tables_few}
use Rattle.batches.proofs.BatchSizes.{batch_most}
use Rattle.batches.proofs.PlainStream.{words_higher}
use Rattle.edition.specs.Meaning.{edition_of}
use Rattle.batch_inputs.proofs.words_due.Goals as goal

-- `batch_inputs::words_due` meets its contract: a plain stream with the sheet has so many words less. Assumes nothing.
pub words_due-requires : goal.words_due-requires
unfolding edition_of
words_due-requires c = c.requires.edition1_in_bounds

pub shift-requires : goal.shift-requires
shift-requires c =
    let a = c.args in
    let h = sheet_of edition1 a.w.now in
    let t = tables_few h (length a.bounds.now) a.bounds.now c.requires.bounds_value in record { in_bounds = c.requires.edition1_in_bounds.0; le_count = (t.0, (t.1, entries_few h (length a.bounds.now) a.bounds.now c.requires.bounds_value)) }

pub overflow_add-result : goal.overflow_add-result
overflow_add-result c = omega (arith, c.words_due.ensures.1, c.shift.ensures.1)

pub returns : goal.returns
unfolding edition_of
returns c =
    let a = c.args in
    let h = sheet_of edition1 a.w.now in
    let n = length a.bounds.now in
    let e = words_higher h n (tables_few h n a.bounds.now c.requires.bounds_value).0 in (
      omega (arith, c.words_due.ensures.0, c.shift.ensures.0, e),
      omega (arith, c.words_due.ensures.0, c.shift.ensures.0, e, batch_most a.w.now c.requires.edition1_in_bounds.0 c.requires.edition1_in_bounds.1 n a.bounds.now c.requires.bounds_value),
    )
