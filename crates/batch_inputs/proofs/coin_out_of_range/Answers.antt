use native.Mathlib.Omega.{arith}
use mathlib.Core.List.{List, zip_with}
use mathlib.Core.Path.{sym, ap, ◌∙◌}
use Prim.Native.Nat.{ℕ}
use lib.ListN.{length}
use lib.Seq.{length-take-le}
use Rattle.list_laws.specs.Lists.{rest_all}
use Rattle.definition.specs.Layout.{coin_kinds, layout}
use Rattle.definition.specs.Lists.{first_true}
use Rattle.definition.specs.Reading.{out_of_range}
use Rattle.definition.specs.Sheet.{edition1, sheet_of}
use Rattle.edition.specs.Meaning.{edition_of}
use Rattle.outcome.specs.Answers.{at_place, nowhere}
use Rattle.outcome.specs.Meaning.{place_of}
use Rattle.batch_inputs.proofs.Coins.{enough, in_coins, in_combination, in_range, other_place, others_long}
use Rattle.batch_inputs.proofs.coin_out_of_range.Goals as goal

-- `batch_inputs::coin_out_of_range`: with a word of r, with one of another coin, or with nothing out of range. Assumes nothing.
pub bounds-w-0 : goal.bounds-w-0
bounds-w-0 c = omega (arith, c.requires.edition1_in_bounds.0)

pub bounds-w-0-2 : goal.bounds-w-0-2
bounds-w-0-2 c = omega (arith, c.requires.edition1_in_bounds.0)

pub slice_bounds-coefficient_out_of_range-end : goal.slice_bounds-coefficient_out_of_range-end
unfolding sheet_of
slice_bounds-coefficient_out_of_range-end c =
    let a = c.args in
    let u = c.words-width in
    sym (length-take-le u.result a.coins.now (enough a.w.now a.coins.now c.requires.coins_len u.ensures.0))

pub coefficient_out_of_range-combination-requires : goal.coefficient_out_of_range-combination-requires
coefficient_out_of_range-combination-requires c = tt

pub returns-in-Some : goal.returns-in-Some
unfolding place_of sheet_of
returns-in-Some c =
    λ count.
    let a = c.args in
    in_combination a.w.now a.coins.now c.requires.coins_len c.words-width.ensures.0 count _ (at_place c.coefficient_out_of_range-combination.ensures c.in-Some.is)

pub slice_bounds-coin_out_of_range-count : goal.slice_bounds-coin_out_of_range-count
unfolding sheet_of
slice_bounds-coin_out_of_range-count c =
    let a = c.args in
    omega (arith, enough a.w.now a.coins.now c.requires.coins_len c.words-width.ensures.0)

pub slice_bounds-coin_out_of_range-start : goal.slice_bounds-coin_out_of_range-start
unfolding sheet_of
slice_bounds-coin_out_of_range-start c =
    let a = c.args in
    omega (arith, enough a.w.now a.coins.now c.requires.coins_len c.words-width.ensures.0)

pub coin_out_of_range-coin-requires : goal.coin_out_of_range-coin-requires
unfolding edition_of sheet_of
coin_out_of_range-coin-requires c =
    let a = c.args in
    let u = c.words-width in record { e_in_bounds = c.requires.edition1_in_bounds; coins_len = ap length (rest_all u.result a.coins.now) ∙ others_long a.w.now a.coins.now c.requires.coins_len u.ensures.0 }

pub overflow_add-result : goal.overflow_add-result
unfolding edition_of sheet_of
overflow_add-result c =
    let a = c.args in
    let u = c.words-width in
    let h = sheet_of edition1 a.w.now in
    let e = at_place c.coin_out_of_range-coin.ensures c.in-Some-coin.is ∙ ap (λ (l : List ℕ). first_true 0 (zip_with (out_of_range h) (coin_kinds (layout h)) l)) (rest_all u.result a.coins.now) in
    omega (arith, u.ensures.1, other_place a.w.now a.coins.now c.requires.coins_len c.requires.edition1_in_bounds.0 c.requires.edition1_in_bounds.1 u.result e)

pub returns-in-Some-coin : goal.returns-in-Some-coin
unfolding place_of edition_of sheet_of
returns-in-Some-coin c =
    λ count.
    let a = c.args in
    let u = c.words-width in
    let h = sheet_of edition1 a.w.now in
    let e = at_place c.coin_out_of_range-coin.ensures c.in-Some-coin.is ∙ ap (λ (l : List ℕ). first_true 0 (zip_with (out_of_range h) (coin_kinds (layout h)) l)) (rest_all u.result a.coins.now) in
    in_coins a.w.now a.coins.now c.requires.coins_len u.ensures.0 count c.in-Some-coin.place (nowhere c.coefficient_out_of_range-combination.ensures c.in_default.is) e

pub returns : goal.returns
unfolding place_of edition_of sheet_of
returns c =
    λ count.
    let a = c.args in
    let u = c.words-width in
    let h = sheet_of edition1 a.w.now in
    let e = nowhere c.coin_out_of_range-coin.ensures c.in_default-coin.is ∙ ap (λ (l : List ℕ). first_true 0 (zip_with (out_of_range h) (coin_kinds (layout h)) l)) (rest_all u.result a.coins.now) in
    in_range a.w.now a.coins.now c.requires.coins_len u.ensures.0 count (nowhere c.coefficient_out_of_range-combination.ensures c.in_default.is) e
