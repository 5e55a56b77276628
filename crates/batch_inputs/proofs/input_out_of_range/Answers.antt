use native.Mathlib.Omega.{arith}
use mathlib.Core.Path.{refl}
use lib.ListN.{length}
use Rattle.batch_definition.specs.Batch.{batch_layout}
use Rattle.definition.specs.Layout.{coin_kinds, limit, message}
use Rattle.definition.specs.Sheet.{edition1, sheet_of}
use Rattle.input_tests.specs.Places.{in_front, in_neither, in_others}
use Rattle.outcome.specs.Answers.{at_place, nowhere}
use Rattle.outcome.specs.Meaning.{place_of}
use Rattle.batch_inputs.proofs.Coins.{coin_place}
use Rattle.batch_inputs.proofs.input_out_of_range.Goals as goal

-- `batch_inputs::input_out_of_range`: with a coefficient, with a coin, or with nothing out of range. Assumes nothing.
pub bounds-w-0 : goal.bounds-w-0
bounds-w-0 c = omega (arith, c.requires.edition1_in_bounds.0)

pub coefficient_out_of_range-coefficient-requires : goal.coefficient_out_of_range-coefficient-requires
coefficient_out_of_range-coefficient-requires c = tt

pub returns-in-Some : goal.returns-in-Some
unfolding place_of sheet_of limit
returns-in-Some c =
    λ count.
    let a = c.args in
    let h = sheet_of edition1 a.w.now in
    in_front h message refl (coin_kinds (batch_layout h count)) a.f.now a.coins.now (length a.f.now) refl _ (at_place c.coefficient_out_of_range-coefficient.ensures c.in-Some.is)

pub coin_out_of_range-coin-requires : goal.coin_out_of_range-coin-requires
coin_out_of_range-coin-requires c = record { edition1_in_bounds = (c.requires.edition1_in_bounds.0, c.requires.edition1_in_bounds.1.0); coins_len = c.requires.coins_len }

pub overflow_add-result : goal.overflow_add-result
overflow_add-result c =
    let a = c.args in
    omega (arith, c.requires.edition1_in_bounds.1.1, coin_place a.w.now a.coins.now c.requires.coins_len c.requires.edition1_in_bounds.0 c.requires.edition1_in_bounds.1.0 0 (at_place (c.coin_out_of_range-coin.ensures 0) c.in-Some-coin.is))

pub returns-in-Some-coin : goal.returns-in-Some-coin
unfolding place_of sheet_of limit
returns-in-Some-coin c =
    λ count.
    let a = c.args in
    let h = sheet_of edition1 a.w.now in
    in_others h message refl (coin_kinds (batch_layout h count)) a.f.now a.coins.now (length a.f.now) refl c.in-Some-coin.place
    (nowhere c.coefficient_out_of_range-coefficient.ensures c.in_default.is) (at_place (c.coin_out_of_range-coin.ensures count) c.in-Some-coin.is)

pub returns : goal.returns
unfolding place_of sheet_of limit
returns c =
    λ count.
    let a = c.args in
    let h = sheet_of edition1 a.w.now in
    in_neither h message refl (coin_kinds (batch_layout h count)) a.f.now a.coins.now (length a.f.now) refl
    (nowhere c.coefficient_out_of_range-coefficient.ensures c.in_default.is) (nowhere (c.coin_out_of_range-coin.ensures count) c.in_default-coin.is)
