use native.Mathlib.Omega.{arith}
use Rattle.layouts.specs.SheetRules.{long_enough}
use Rattle.definition.specs.Layout.{coin_kinds, layout}
use Rattle.definition.specs.Sheet.{sheet_of}
use Rattle.edition.specs.Meaning.{edition_of}
use Rattle.outcome.specs.Answers.{at_place, nowhere}
use Rattle.outcome.specs.Meaning.{place_of}
use Rattle.input_tests.proofs.Range.{in_coefficients, in_coins, in_range, place_small}
use Rattle.input_tests.proofs.input_out_of_range.Goals as goal

-- `input_tests::input_out_of_range`: with a coefficient, with a coin, or with nothing out of range.
pub bounds-w-0 : goal.bounds-w-0
bounds-w-0 c = omega (arith, long_enough (edition_of c.args.e) c.args.w.now c.requires.e_in_bounds.0)

pub returns-in-Some : goal.returns-in-Some
unfolding place_of
returns-in-Some c =
    let a = c.args in
    in_coefficients (edition_of a.e) a.w.now a.f.now c.requires.f_len (coin_kinds (layout (sheet_of (edition_of a.e) a.w.now))) a.coins.now _
    (at_place c.coefficient_out_of_range-coefficient.ensures c.in-Some.is)

pub overflow_add-result : goal.overflow_add-result
overflow_add-result c =
    let a = c.args in
    omega (
      arith,
      place_small (edition_of a.e) a.w.now a.f.now c.requires.f_len a.coins.now c.in-Some-coin.place c.requires.e_in_bounds.0 c.requires.e_in_bounds.1 c.requires.coins_len
          (at_place c.coin_out_of_range-coin.ensures c.in-Some-coin.is),
    )

pub returns-in-Some-coin : goal.returns-in-Some-coin
unfolding place_of
returns-in-Some-coin c =
    let a = c.args in
    in_coins (edition_of a.e) a.w.now a.f.now c.requires.f_len (coin_kinds (layout (sheet_of (edition_of a.e) a.w.now))) a.coins.now c.in-Some-coin.place
    (nowhere c.coefficient_out_of_range-coefficient.ensures c.in_default.is)
    (at_place c.coin_out_of_range-coin.ensures c.in-Some-coin.is)

pub returns : goal.returns
unfolding place_of
returns c =
    let a = c.args in
    in_range (edition_of a.e) a.w.now a.f.now c.requires.f_len (coin_kinds (layout (sheet_of (edition_of a.e) a.w.now))) a.coins.now
    (nowhere c.coefficient_out_of_range-coefficient.ensures c.in_default.is)
    (nowhere c.coin_out_of_range-coin.ensures c.in_default-coin.is)
