use native.Mathlib.Omega.{arith}
use Rattle.list_laws.specs.Zeros.{length_zeros}
use Rattle.edition.specs.Meaning.{edition_of}
use Rattle.domain.specs.OfSheet.{points_of_sheet}
use Rattle.start_tests.proofs.Joined.{sheet_fits}
use borrow.Author.Rules.{rules}
use Rattle.start_tests.proofs.outs.Goals as goal

pub bounds-w-1 : goal.bounds-w-1
bounds-w-1 c =
    omega (arith, (sheet_fits (edition_of c.args.e) c.args.w.now c.requires.w_value c.requires.w_in_bounds).0)

pub of_sheet_within-count-requires : goal.of_sheet_within-count-requires
of_sheet_within-count-requires c = record { in_bounds = sheet_fits (edition_of c.args.e) c.args.w.now c.requires.w_value c.requires.w_in_bounds; w_in_bounds = search rules }

pub tests-requires : goal.tests-requires
tests-requires c =
    let q = c.of_sheet_within-count in record { w_value = c.requires.w_value; w_in_bounds = c.requires.w_in_bounds; powers = (points_of_sheet (edition_of c.args.e) c.args.w.now _ q.ensures.powers.0, q.ensures.powers.1) }

pub of_sheet-size-requires : goal.of_sheet-size-requires
of_sheet-size-requires c = record { in_bounds = sheet_fits (edition_of c.args.e) c.args.w.now c.requires.w_value c.requires.w_in_bounds; pw_len = length_zeros 4096 }

pub tests-requires-2 : goal.tests-requires-2
tests-requires-2 c =
    let q = c.of_sheet-size in record { w_value = c.requires.w_value; w_in_bounds = c.requires.w_in_bounds; powers = (points_of_sheet (edition_of c.args.e) c.args.w.now _ q.ensures.powers.0, q.ensures.powers.1) }
