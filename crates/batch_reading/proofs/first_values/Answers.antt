use native.Mathlib.Omega.{arith}
use mathlib.Core.Path.{refl, sym, ◌∙◌}
use lib.ListN.{length, get_or}
use lib.Seq.{length-take-le}
use Rattle.definition.specs.Sheet.{edition1, sheet_of}
use Rattle.domain.specs.OfSheet.{fitting, points_of_sheet}
use Rattle.elements.specs.Meaning.{value_at}
use Rattle.list_laws.specs.Lists.{rest_all}
use Rattle.list_laws.specs.Zeros.{length_zeros, zeros}
use Rattle.batch_reading.proofs.Values.{bounds_cut, combination_asks, degree_small, entries_of, few_tables, r_given, r_inside, sheet_there, size_small, tables_there, values_are}
use Rattle.batch_reading.proofs.first_values.Goals as goal

-- `batch_reading::first_values` meets its contract. Assumes nothing.
pub bounds-w-0 : goal.bounds-w-0
bounds-w-0 c = omega (arith, sheet_there c.args.w.now c.requires.ruled)

pub bounds-w-2 : goal.bounds-w-2
bounds-w-2 c = omega (arith, sheet_there c.args.w.now c.requires.ruled)

pub overflow_cast-d : goal.overflow_cast-d
overflow_cast-d c = omega (arith, c.shared_slice_known-3-1.given 2)

pub bounds-w-12 : goal.bounds-w-12
bounds-w-12 c = omega (arith, tables_there c.args.w.now c.requires.ruled)

pub overflow_cast-count : goal.overflow_cast-count
overflow_cast-count c = omega (arith, c.shared_slice_known-4-1.given 12)

pub of_sheet-size-requires : goal.of_sheet-size-requires
of_sheet-size-requires c =
    let w = c.args.w.now in record { in_bounds = (sheet_there w c.requires.ruled, fitting edition1 w (sheet_there w c.requires.ruled) c.requires.ruled.sheet); pw_len = length_zeros 4096 }

pub words-places-requires : goal.words-places-requires
words-places-requires c = omega (arith, (degree_small c.args.w.now c.requires.ruled).0)

pub overflow_add-from : goal.overflow_add-from
overflow_add-from c = omega (arith, (few_tables c.args.w.now c.requires.ruled).1)

pub offset_bounds-w-from : goal.offset_bounds-w-from
offset_bounds-w-from c = omega (arith, (few_tables c.args.w.now c.requires.ruled).1)

pub slice_bounds-tables-count : goal.slice_bounds-tables-count
slice_bounds-tables-count c = omega (arith, tables_there c.args.w.now c.requires.ruled)

pub slice_bounds-tables-start : goal.slice_bounds-tables-start
slice_bounds-tables-start c = omega (arith, tables_there c.args.w.now c.requires.ruled)

pub overflow_mul-count : goal.overflow_mul-count
overflow_mul-count c = omega (arith, entries_of c.args.w.now c.requires.ruled c.of_sheet-size.ensures.value.0)

pub get-r-requires : goal.get-r-requires
get-r-requires c = r_inside c.args.w.now c.requires.ruled c.of_sheet-size.ensures.value.0

pub slice_bounds-values-end : goal.slice_bounds-values-end
slice_bounds-values-end c = omega (arith, tables_there c.args.w.now c.requires.ruled)

pub slice_bounds-list-end : goal.slice_bounds-list-end
slice_bounds-list-end c = omega (arith, c.words-places.ensures.0, (degree_small c.args.w.now c.requires.ruled).1)

pub slice_bounds-values-end-3 : goal.slice_bounds-values-end-3
slice_bounds-values-end-3 c = sym (length-take-le c.words-places.result (zeros 2048) (omega (arith, length_zeros 2048, c.words-places.ensures.0, (degree_small c.args.w.now c.requires.ruled).1)))

pub slice_bounds-multipliers-end : goal.slice_bounds-multipliers-end
slice_bounds-multipliers-end c = omega (arith, c.requires.out_len, (size_small c.args.w.now c.requires.ruled).1)

pub slice_bounds-values-end-4 : goal.slice_bounds-values-end-4
slice_bounds-values-end-4 c = sym (length-take-le (length c.args.out.now) (zeros 4096) (omega (arith, length_zeros 4096, c.requires.out_len, (size_small c.args.w.now c.requires.ruled).1)))

pub values-requires : goal.values-requires
values-requires c =
    let w = c.args.w.now in
    let places = length-take-le c.words-places.result (zeros 2048) (omega (arith, length_zeros 2048, c.words-places.ensures.0, (degree_small w c.requires.ruled).1)) in
    let room = length-take-le (length c.args.out.now) (zeros 4096) (omega (arith, length_zeros 4096, c.requires.out_len, (size_small w c.requires.ruled).1)) in let both = combination_asks w c.requires.ruled refl (bounds_cut w c.requires.ruled) (rest_all _ w) (points_of_sheet edition1 w _ c.of_sheet-size.ensures.powers.0) c.of_sheet-size.ensures.powers.1 (places ∙ c.words-places.ensures.0) c.requires.out_len room in record { bounded = both.0; tabled = both.1 }

pub returns : goal.returns
unfolding sheet_of
returns c =
    let w = c.args.w.now in
    let v = c.values in
    values_are w c.requires.ruled (get_or w 2 0) (value_at (get_or w 0 0) c.get-r.result) _ _ _ c.args.out.now v.new.out refl (bounds_cut w c.requires.ruled) (rest_all _ w) (c.get-r.ensures ∙ r_given w c.requires.ruled c.of_sheet-size.ensures.value.0)
    (points_of_sheet edition1 w _ c.of_sheet-size.ensures.powers.0) c.of_sheet-size.ensures.powers.1 c.requires.out_len v.auto.out v.ensures
