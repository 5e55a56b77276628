use native.Mathlib.Omega.{arith}
use mathlib.Core.Path.{◌∙◌}
use Rattle.list_laws.specs.Zeros.{length_zeros}
use Rattle.layouts.specs.SheetRules.{long_enough}
use Rattle.domain.specs.OfSheet.{fitting, points_of_sheet}
use Rattle.edition.specs.Meaning.{edition_of}
use Rattle.input_tests.proofs.Stages.{coin_tests}
use Rattle.input_tests.proofs.coin_tests.Goals as goal

-- `input_tests::coin_tests`: the points of the sheet's domain, in one or the other room.
pub bounds-w-1 : goal.bounds-w-1
bounds-w-1 c = omega (arith, long_enough (edition_of c.args.e) c.args.w.now c.requires.e_in_bounds.0)

pub of_sheet_within-count-requires : goal.of_sheet_within-count-requires
of_sheet_within-count-requires c = record { in_bounds = (long_enough (edition_of c.args.e) c.args.w.now c.requires.e_in_bounds.0, fitting (edition_of c.args.e) c.args.w.now c.requires.e_in_bounds.0 c.requires.e_in_bounds.1); w_in_bounds = omega (arith, length_zeros 256, c.if-w-le256.true) }

pub coin_tests-requires : goal.coin_tests-requires
coin_tests-requires c =
    let o = c.of_sheet_within-count.ensures.powers in record { e_in_bounds = c.requires.e_in_bounds; coins_len = c.requires.coins_len; powers = (points_of_sheet (edition_of c.args.e) c.args.w.now _ o.0, o.1) }

pub returns-then-w-le256 : goal.returns-then-w-le256
returns-then-w-le256 c = let a = c.args in c.coin_tests.ensures ∙ coin_tests (edition_of a.e) a.w.now a.coins.now

pub of_sheet-size-requires : goal.of_sheet-size-requires
of_sheet-size-requires c = record { in_bounds = (long_enough (edition_of c.args.e) c.args.w.now c.requires.e_in_bounds.0, fitting (edition_of c.args.e) c.args.w.now c.requires.e_in_bounds.0 c.requires.e_in_bounds.1); pw_len = length_zeros 4096 }

pub coin_tests-requires-2 : goal.coin_tests-requires-2
coin_tests-requires-2 c =
    let o = c.of_sheet-size.ensures.powers in record { e_in_bounds = c.requires.e_in_bounds; coins_len = c.requires.coins_len; powers = (points_of_sheet (edition_of c.args.e) c.args.w.now _ o.0, o.1) }

pub returns : goal.returns
returns c = let a = c.args in c.coin_tests-2.ensures ∙ coin_tests (edition_of a.e) a.w.now a.coins.now
