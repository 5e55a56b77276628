use native.Mathlib.Omega.{arith}
use mathlib.Core.Path.{◌∙◌}
use Rattle.definition.specs.Sheet.{edition1}
use Rattle.outcome.specs.Meaning.{outcome_of}
use Rattle.input_tests.proofs.Range.{coefficients_test}
use Rattle.input_tests.proofs.Stages.{other_count, no_element, few_words, encodes}
use Rattle.input_tests.proofs.encode_after_sheet.Goals as goal

pub overflow_cast-w : goal.overflow_cast-w
overflow_cast-w c = omega (arith, c.shared_slice_known-4-1.given 2)

pub words-requires : goal.words-requires
words-requires c = omega (arith, c.shared_slice_known-4-1.given 2)

pub returns-then-f-words : goal.returns-then-f-words
unfolding outcome_of
returns-then-f-words c = λ output l. let a = c.args in other_count edition1 a.w.now a.f.now output c.words.ensures.0 c.if-f-words.true

pub returns-in-Some : goal.returns-in-Some
unfolding outcome_of
returns-in-Some c = λ output l.
    let a = c.args in
    let right = c.if-f-words.false ∙ c.words.ensures.0 in
    no_element edition1 a.w.now a.f.now output right (coefficients_test edition1 a.w.now a.f.now right c.coefficient_out_of_range-range.ensures) c.in-Some.is

pub overflow_cast-w-2 : goal.overflow_cast-w-2
overflow_cast-w-2 c = omega (arith, c.shared_slice_known-5-1.given 1)

pub words-size-requires : goal.words-size-requires
words-size-requires c = omega (arith, c.shared_slice_known-5-1.given 1)

pub returns-then-room-size : goal.returns-then-room-size
unfolding outcome_of
returns-then-room-size c = λ output l.
    let a = c.args in
    let right = c.if-f-words.false ∙ c.words.ensures.0 in
    few_words edition1 a.w.now a.f.now output right (coefficients_test edition1 a.w.now a.f.now right c.coefficient_out_of_range-range.ensures)
    c.in_default.is l c.words-size.ensures.0 c.if-room-size.true

pub returns : goal.returns
unfolding outcome_of
returns c = λ output l.
    let a = c.args in
    let right = c.if-f-words.false ∙ c.words.ensures.0 in
    encodes edition1 a.w.now a.f.now output right (coefficients_test edition1 a.w.now a.f.now right c.coefficient_out_of_range-range.ensures)
    c.in_default.is l c.words-size.ensures.0 c.if-room-size.false
