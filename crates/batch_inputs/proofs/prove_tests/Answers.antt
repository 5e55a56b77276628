use Rattle.definition.specs.Sheet.{edition1}
use Rattle.edition.specs.Meaning.{edition_of}
use Rattle.outcome.specs.Meaning.{outcome_of}
use Rattle.input_tests.specs.OneByOne.{after_sheet, sheet_long, sheet_passed, sheet_refused}
use Rattle.batch_inputs.proofs.prove_tests.Goals as goal

-- `batch_inputs::prove_tests`: the sheet's tests, then those after them. Assumes nothing.
pub sheet_tests-sheet-requires : goal.sheet_tests-sheet-requires
sheet_tests-sheet-requires c = tt

pub returns-in-Refused : goal.returns-in-Refused
unfolding outcome_of edition_of
returns-in-Refused c = λ output l. sheet_refused edition1 c.args.w.now c.sheet_tests-sheet.ensures _ c.in-Refused.is

pub after_sheet-requires : goal.after_sheet-requires
unfolding edition_of
after_sheet-requires c =
    let w = c.args.w.now in
    (sheet_long edition1 w c.sheet_tests-sheet.ensures c.in_default.is, sheet_passed edition1 w c.sheet_tests-sheet.ensures c.in_default.is)

pub returns : goal.returns
unfolding edition_of
returns c = λ output l. after_sheet edition1 c.args.w.now c.sheet_tests-sheet.ensures c.in_default.is (c.after_sheet.ensures output l)
