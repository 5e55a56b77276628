use Rattle.edition.specs.Meaning.{edition_of}
use Rattle.outcome.specs.Meaning.{outcome_of}
use Rattle.input_tests.specs.OneByOne.{sheet_refused, sheet_long, sheet_passed, after_sheet}
use Rattle.input_tests.proofs.prove_tests.Goals as goal

pub returns-in-Refused : goal.returns-in-Refused
unfolding outcome_of
returns-in-Refused c = λ output l.
    sheet_refused (edition_of c.args.e) c.args.w.now c.sheet_tests-sheet.ensures _ c.in-Refused.is

pub prove_after_sheet-requires : goal.prove_after_sheet-requires
prove_after_sheet-requires c =
    let w = c.args.w.now in
    let ed = edition_of c.args.e in
    (sheet_long ed w c.sheet_tests-sheet.ensures c.in_default.is, sheet_passed ed w c.sheet_tests-sheet.ensures c.in_default.is)

pub returns : goal.returns
returns c = λ output l.
    after_sheet (edition_of c.args.e) c.args.w.now c.sheet_tests-sheet.ensures c.in_default.is (c.prove_after_sheet.ensures output l)
