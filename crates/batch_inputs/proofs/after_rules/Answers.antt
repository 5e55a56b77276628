use Prim.Native.Nat.{ℕ, ◌+◌, ◌/◌}
use native.Mathlib.Omega.{arith}
use mathlib.Core.Path.{ap, ◌∙◌}
use Rattle.definition.specs.Block.{block_count}
use Rattle.definition.specs.Sheet.{edition1, sheet_of}
use Rattle.layouts.proofs.DueSizes.{coins_most}
use Rattle.edition.specs.Meaning.{edition_of}
use Rattle.outcome.specs.Meaning.{outcome_of}
use Rattle.batch_inputs.proofs.Stages.{few_bytes, other_coefficients, other_coins, out_coins_refused, out_of_range_lem, proves}
use Rattle.batch_inputs.proofs.after_rules.Goals as goal

-- `batch_inputs::after_rules`: one test after the other. Assumes nothing.
pub coefficients_due-requires : goal.coefficients_due-requires
coefficients_due-requires c = record { in_bounds = c.requires.edition1_in_bounds; bounds_value = c.requires.bounds_value }

pub returns-then-f-coefficients_due : goal.returns-then-f-coefficients_due
unfolding outcome_of
returns-then-f-coefficients_due c =
    λ output l.
    let a = c.args in
    other_coefficients a.w.now a.bounds.now a.f.now a.coins.now output c.requires.bounds_value c.coefficients_due.ensures.0 c.if-f-coefficients_due.true

pub coins_due-requires : goal.coins_due-requires
unfolding edition_of
coins_due-requires c = c.requires.edition1_in_bounds

pub bounds-w-0 : goal.bounds-w-0
bounds-w-0 c = omega (arith, c.requires.edition1_in_bounds.0)

pub overflow_add-coins_due : goal.overflow_add-coins_due
unfolding edition_of
overflow_add-coins_due c =
    let a = c.args in
    omega (arith, c.coins_due.ensures, c.words.ensures.1, coins_most edition1 a.w.now c.requires.edition1_in_bounds.0 c.requires.edition1_in_bounds.1)

pub returns-then-coins-coins_due : goal.returns-then-coins-coins_due
unfolding outcome_of edition_of sheet_of
returns-then-coins-coins_due c =
    λ output l.
    let a = c.args in
    other_coins a.w.now a.bounds.now a.f.now a.coins.now output c.requires.bounds_value (c.if-f-coefficients_due.false ∙ c.coefficients_due.ensures.0) (λ i. c.coins_due.ensures i + c.words.ensures.0 i) c.if-coins-coins_due.true

pub input_out_of_range-range-requires : goal.input_out_of_range-range-requires
unfolding edition_of sheet_of
input_out_of_range-range-requires c = record { edition1_in_bounds = (c.requires.edition1_in_bounds.0, (c.requires.edition1_in_bounds.1, omega (arith, c.if-f-coefficients_due.false, c.coefficients_due.ensures.1))); coins_len = c.if-coins-coins_due.false ∙ (λ i. c.coins_due.ensures i + c.words.ensures.0 i) }

pub returns-in-Some : goal.returns-in-Some
unfolding outcome_of edition_of sheet_of
returns-in-Some c =
    λ output l.
    let a = c.args in
    let i = c.input_out_of_range-range in
    out_of_range_lem a.w.now a.bounds.now a.f.now a.coins.now output c.requires.bounds_value (c.if-f-coefficients_due.false ∙ c.coefficients_due.ensures.0) (c.if-coins-coins_due.false ∙ (λ j. c.coins_due.ensures j + c.words.ensures.0 j)) i.result i.ensures c.in-Some.is

pub out_tests-outs-requires : goal.out_tests-outs-requires
unfolding edition_of sheet_of
out_tests-outs-requires c = record { edition1_in_bounds = c.requires.edition1_in_bounds; coins_len = c.if-coins-coins_due.false ∙ (λ i. c.coins_due.ensures i + c.words.ensures.0 i) }

pub returns-in-Refused : goal.returns-in-Refused
unfolding outcome_of edition_of sheet_of
returns-in-Refused c =
    λ output l.
    let a = c.args in
    let i = c.input_out_of_range-range in
    let t = c.out_tests-outs in
    out_coins_refused a.w.now a.bounds.now a.f.now a.coins.now output c.requires.bounds_value (c.if-f-coefficients_due.false ∙ c.coefficients_due.ensures.0) (c.if-coins-coins_due.false ∙ (λ j. c.coins_due.ensures j + c.words.ensures.0 j)) i.result i.ensures
    c.in_default.is t.result t.ensures c.in-Refused.is

pub words_due-requires : goal.words_due-requires
words_due-requires c = record { edition1_in_bounds = c.requires.edition1_in_bounds; bounds_value = c.requires.bounds_value }

pub overflow_add-blocks : goal.overflow_add-blocks
overflow_add-blocks c = omega (arith, c.words_due.ensures.1)

pub overflow_mul-blocks : goal.overflow_mul-blocks
overflow_mul-blocks c = omega (arith, c.words_due.ensures.1)

pub returns-then-room-blocks : goal.returns-then-room-blocks
unfolding outcome_of edition_of sheet_of block_count
returns-then-room-blocks c =
    λ output l.
    let a = c.args in
    let i = c.input_out_of_range-range in
    let t = c.out_tests-outs in
    few_bytes a.w.now a.bounds.now a.f.now a.coins.now output c.requires.bounds_value (c.if-f-coefficients_due.false ∙ c.coefficients_due.ensures.0) (c.if-coins-coins_due.false ∙ (λ j. c.coins_due.ensures j + c.words.ensures.0 j)) i.result i.ensures
    c.in_default.is t.result t.ensures c.in_default-outs.is (ap (λ (n : ℕ). (n + 126) / 127) c.words_due.ensures.0) l c.if-room-blocks.true

pub returns : goal.returns
unfolding outcome_of edition_of sheet_of block_count
returns c =
    λ output l.
    let a = c.args in
    let i = c.input_out_of_range-range in
    let t = c.out_tests-outs in
    proves a.w.now a.bounds.now a.f.now a.coins.now output c.requires.bounds_value (c.if-f-coefficients_due.false ∙ c.coefficients_due.ensures.0) (c.if-coins-coins_due.false ∙ (λ j. c.coins_due.ensures j + c.words.ensures.0 j)) i.result i.ensures
    c.in_default.is t.result t.ensures c.in_default-outs.is (ap (λ (n : ℕ). (n + 126) / 127) c.words_due.ensures.0) l c.if-room-blocks.false
