use mathlib.Core.Path.{◌∙◌}
use native.Mathlib.Omega.{arith}
use Rattle.layouts.specs.SheetRules.{long_enough}
use Rattle.edition.specs.Meaning.{edition_of}
use Rattle.outcome.specs.Meaning.{outcome_of}
use Rattle.input_tests.proofs.Stages.{other_coefficients, other_coins, out_of_range_lem, out_coins_refused, few_bytes, proves}
use Rattle.input_tests.proofs.prove_after_sheet.Goals as goal

-- `input_tests::prove_after_sheet`: one test after the other.
pub bounds-w-0 : goal.bounds-w-0
bounds-w-0 c = omega (arith, long_enough (edition_of c.args.e) c.args.w.now c.requires.0)

pub bounds-w-2 : goal.bounds-w-2
bounds-w-2 c = omega (arith, long_enough (edition_of c.args.e) c.args.w.now c.requires.0)

pub overflow_cast-w : goal.overflow_cast-w
overflow_cast-w c = omega (arith, c.shared_slice_known-5-1.given 2)

pub words-requires : goal.words-requires
words-requires c = omega (arith, c.shared_slice_known-5-1.given 2)

pub returns-then-f-words : goal.returns-then-f-words
unfolding outcome_of
returns-then-f-words c = λ output l.
    let a = c.args in
    other_coefficients (edition_of a.e) a.w.now a.f.now a.coins.now output c.words.ensures.0 c.if-f-words.true

pub returns-then-coins-coins_due : goal.returns-then-coins-coins_due
unfolding outcome_of
returns-then-coins-coins_due c = λ output l.
    let a = c.args in
    other_coins (edition_of a.e) a.w.now a.f.now a.coins.now output (c.if-f-words.false ∙ c.words.ensures.0) c.coins_due.ensures c.if-coins-coins_due.true

pub returns-in-Some : goal.returns-in-Some
unfolding outcome_of
returns-in-Some c = λ output l.
    let a = c.args in
    out_of_range_lem (edition_of a.e) a.w.now a.f.now a.coins.now output (c.if-f-words.false ∙ c.words.ensures.0) (c.if-coins-coins_due.false ∙ c.coins_due.ensures)
    c.input_out_of_range-range.ensures c.in-Some.is

pub returns-in-Refused : goal.returns-in-Refused
unfolding outcome_of
returns-in-Refused c = λ output l.
    let a = c.args in
    out_coins_refused (edition_of a.e) a.w.now a.f.now a.coins.now output (c.if-f-words.false ∙ c.words.ensures.0) (c.if-coins-coins_due.false ∙ c.coins_due.ensures)
    c.input_out_of_range-range.ensures c.in_default.is c.coin_tests-outs.ensures c.in-Refused.is

pub returns-then-room-blocks : goal.returns-then-room-blocks
unfolding outcome_of
returns-then-room-blocks c = λ output l.
    let a = c.args in
    few_bytes (edition_of a.e) a.w.now a.f.now a.coins.now output (c.if-f-words.false ∙ c.words.ensures.0) (c.if-coins-coins_due.false ∙ c.coins_due.ensures)
    c.input_out_of_range-range.ensures c.in_default.is c.coin_tests-outs.ensures c.in_default-outs.is
    c.blocks_due-blocks.ensures.0 l c.if-room-blocks.true

pub returns : goal.returns
unfolding outcome_of
returns c = λ output l.
    let a = c.args in
    proves (edition_of a.e) a.w.now a.f.now a.coins.now output (c.if-f-words.false ∙ c.words.ensures.0) (c.if-coins-coins_due.false ∙ c.coins_due.ensures)
    c.input_out_of_range-range.ensures c.in_default.is c.coin_tests-outs.ensures c.in_default-outs.is
    c.blocks_due-blocks.ensures.0 l c.if-room-blocks.false
