use native.Mathlib.Omega.{arith}
use mathlib.Core.Path.{ap, ◌∙◌}
use Prim.Native.Nat.{ℕ, ◌+◌, ◌-◌, ◌/◌}
use lib.ListN.{get_or}
use Rattle.outcome.specs.Meaning.{outcome_of}
use Rattle.nearest_inputs.proofs.Stages.{fewer, few_words, no_entry, other_count, searches}
use Rattle.nearest_inputs.proofs.after_sheet.Goals as goal

pub overflow_cast-n : goal.overflow_cast-n
overflow_cast-n c = omega (arith, c.shared_slice_known-4-1.given 1)

pub words-requires : goal.words-requires
words-requires c = omega (arith, c.shared_slice_known-4-1.given 1)

pub returns-then-table-words : goal.returns-then-table-words
unfolding outcome_of
returns-then-table-words c = λ output l. let a = c.args in other_count a.w.now a.table.now output c.words.ensures.0 c.if-table-words.true

pub returns-in-Some : goal.returns-in-Some
unfolding outcome_of
returns-in-Some c =
    λ output l.
    let a = c.args in
    let right = c.if-table-words.false ∙ c.words.ensures.0 in
    no_entry a.w.now a.table.now output right _ c.coefficient_out_of_range-range.ensures c.in-Some.is

pub overflow_cast-d : goal.overflow_cast-d
overflow_cast-d c = omega (arith, c.shared_slice_known-5-1.given 2)

pub words-requires-2 : goal.words-requires-2
words-requires-2 c = omega (arith, c.shared_slice_known-5-1.given 2)

pub overflow_add-most : goal.overflow_add-most
overflow_add-most c = omega (arith, c.words-2.ensures.1, c.shared_slice_known-5-1.given 2)

pub overflow_sub-most : goal.overflow_sub-most
overflow_sub-most c = omega (arith, (fewer c.args.w.now c.requires.1).0)

pub overflow_add-most-2 : goal.overflow_add-most-2
overflow_add-most-2 c = let f = fewer c.args.w.now c.requires.1 in omega (arith, c.words-2.ensures.1, f.0, f.1)

pub returns-then-room-most : goal.returns-then-room-most
unfolding outcome_of
returns-then-room-most c =
    λ output l.
    let a = c.args in
    let right = c.if-table-words.false ∙ c.words.ensures.0 in
    few_words a.w.now a.table.now output right _ c.coefficient_out_of_range-range.ensures c.in_default.is l (ap (λ (m : ℕ). m + 1 + (get_or a.w.now 1 0 - get_or a.w.now 2 0) / 2) c.words-2.ensures.0) c.if-room-most.true

pub returns : goal.returns
unfolding outcome_of
returns c =
    λ output l.
    let a = c.args in
    let right = c.if-table-words.false ∙ c.words.ensures.0 in
    searches a.w.now a.table.now output right _ c.coefficient_out_of_range-range.ensures c.in_default.is l (ap (λ (m : ℕ). m + 1 + (get_or a.w.now 1 0 - get_or a.w.now 2 0) / 2) c.words-2.ensures.0) c.if-room-most.false
