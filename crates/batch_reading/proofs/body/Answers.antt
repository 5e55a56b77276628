use Prim.Native.Nat.{ℕ}
use native.Mathlib.Omega.{arith}
use mathlib.Core.List.{List}
use mathlib.Core.Path.{refl, ap, ◌∙◌}
use Rattle.batches.specs.Batched.{higher}
use Rattle.batches.specs.BodyTests.{plain_body}
use Rattle.list_laws.specs.Lists.{rest_all}
use Rattle.batch_reading.proofs.PlainLaws.{at_number, body_refused, body_told, fold_there, plain_asks, tables_begin}
use Rattle.batch_reading.proofs.Values.{few_tables, sheet_there, shift_asked, size_small, tables_there}
use Rattle.batch_reading.proofs.body.Goals as goal

-- `batch_reading::body` meets its contract. Assumes nothing.
pub bounds-w-12 : goal.bounds-w-12
bounds-w-12 c = omega (arith, tables_there c.args.w.now (c.requires))

pub shift-shift-requires : goal.shift-shift-requires
shift-shift-requires c = let both = shift_asked c.args.w.now (c.requires) in record { in_bounds = both.0; le_count = both.1 }

pub bounds-w-0 : goal.bounds-w-0
bounds-w-0 c = omega (arith, sheet_there c.args.w.now (c.requires))

pub bounds-w-1 : goal.bounds-w-1
bounds-w-1 c = omega (arith, sheet_there c.args.w.now (c.requires))

pub words-requires : goal.words-requires
words-requires c = omega (arith, (size_small c.args.w.now (c.requires)).0)

pub overflow_add-at-2 : goal.overflow_add-at-2
overflow_add-at-2 c = omega (arith, c.words.ensures.0, c.shift-shift.ensures.1, (size_small c.args.w.now (c.requires)).1)

pub overflow_add-count : goal.overflow_add-count
overflow_add-count c = omega (arith, (few_tables c.args.w.now (c.requires)).1)

pub element_out_of_range-tables-requires : goal.element_out_of_range-tables-requires
element_out_of_range-tables-requires c =
    let w = c.args.w.now in
    let k = at_number w (c.requires) c.shift-shift.ensures.0 c.words.ensures.0 in
    (omega (arith, sheet_there w (c.requires)), (omega (arith, k, tables_begin w (c.requires)), omega (arith, k, fold_there w (c.requires))))

pub returns-in-Some : goal.returns-in-Some
returns-in-Some c =
    let w = c.args.w.now in
    body_refused w (c.requires) refl (at_number w (c.requires) c.shift-shift.ensures.0 c.words.ensures.0) c.element_out_of_range-tables.ensures c.in-Some.is

pub to_plain-requires : goal.to_plain-requires
to_plain-requires c = record { ruled = c.requires; shift_value = (c.shift-shift.ensures.0, at_number c.args.w.now (c.requires) c.shift-shift.ensures.0 c.words.ensures.0) }

pub slice_bounds-plain_body-count : goal.slice_bounds-plain_body-count
slice_bounds-plain_body-count c = omega (arith, c.to_plain.auto.words, at_number c.args.w.now (c.requires) c.shift-shift.ensures.0 c.words.ensures.0, fold_there c.args.w.now (c.requires))

pub slice_bounds-plain_body-start : goal.slice_bounds-plain_body-start
slice_bounds-plain_body-start c = omega (arith, c.to_plain.auto.words, at_number c.args.w.now (c.requires) c.shift-shift.ensures.0 c.words.ensures.0, fold_there c.args.w.now (c.requires))

pub plain_body-requires : goal.plain_body-requires
plain_body-requires c =
    let ask = plain_asks c.args.w.now (c.requires) (rest_all c.shift-shift.result c.to_plain.new.words ∙ c.to_plain.ensures) in record { plain_value = ask.0; plain_in_bounds = ask.1; shift_bound = c.shift-shift.ensures.1 }

pub returns : goal.returns
returns c =
    let w = c.args.w.now in
    let k = c.shift-shift.result in
    let left = c.to_plain.new.words in
    body_told w (c.requires) refl (at_number w (c.requires) c.shift-shift.ensures.0 c.words.ensures.0) c.shift-shift.ensures.0 c.element_out_of_range-tables.ensures c.in_default.is c.to_plain.ensures
    (c.plain_body.ensures ∙ ap (λ (l : List ℕ). higher k (plain_body l)) (rest_all k left))
