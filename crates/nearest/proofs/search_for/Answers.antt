use Prim.Native.Nat.{ℕ, ◌+◌, ◌-◌, ◌/◌, ◌≤◌}
use native.Mathlib.Omega.{arith}
use mathlib.Core.Path.{sym, ap, ◌∙◌, subst}
use lib.ListN.{length, get_or, take}
use lib.Seq.{length-take-le}
use Rattle.definition.specs.Sheet.{edition1}
use Rattle.list_laws.specs.Zeros.{zeros, length_zeros}
use Rattle.domain.specs.OfSheet.{fitting, points_of_sheet}
use Rattle.spelling.specs.ByField.{words_at}
use Rattle.nearest.proofs.Orders.{degree_words, entries_small, few_degree_words, for_sheet, halves, sized}
use Rattle.nearest.proofs.search_for.Goals as goal

pub overflow_cast-d : goal.overflow_cast-d
overflow_cast-d c = omega (arith, c.shared_slice_known-4-1.given 2)

pub words-long-requires : goal.words-long-requires
words-long-requires c = omega (arith, c.shared_slice_known-4-1.given 2)

pub of_sheet_within-count-requires : goal.of_sheet_within-count-requires
of_sheet_within-count-requires c =
    let w = c.args.w.now in record { in_bounds = (c.requires.in_bounds.0, fitting edition1 w c.requires.in_bounds.0 c.requires.in_bounds.1); w_in_bounds = omega (arith, length_zeros 256, c.if-w-le256.true) }

pub slice_bounds-g-end : goal.slice_bounds-g-end
slice_bounds-g-end c =
    let w = c.args.w.now in
    omega (arith, c.words-long.ensures.0, few_degree_words w c.requires.in_bounds.0 c.requires.in_bounds.1 c.if-w-le256.true)

pub slice_bounds-search-end-then-w-le256 : goal.slice_bounds-search-end-then-w-le256
slice_bounds-search-end-then-w-le256 c =
    let w = c.args.w.now in
    sym (length-take-le _ (zeros 512) (omega (arith, length_zeros 512, c.words-long.ensures.0, few_degree_words w c.requires.in_bounds.0 c.requires.in_bounds.1 c.if-w-le256.true)))

pub search-requires : goal.search-requires
search-requires c =
    let a = c.args in
    let w = a.w.now in
    let p = c.requires in
    let n = c.of_sheet_within-count.ensures.powers.1 in
    let few = few_degree_words w p.in_bounds.0 p.in_bounds.1 c.if-w-le256.true in
    let long = c.words-long.result in
    let d = length-take-le long (zeros 512) (omega (arith, length_zeros 512, c.words-long.ensures.0, few)) in record { sized = (sized w p.in_bounds.0 p.in_bounds.1 n, halves w p.in_bounds.0 p.in_bounds.1 n); table_len = (p.table_len ∙ ap (words_at (get_or w 0 0)) (sym n), (omega (arith, p.table_len, entries_small w p.in_bounds.0 p.in_bounds.1), (d ∙ c.words-long.ensures.0, omega (arith, d, c.words-long.ensures.0, few)))); d_in_bounds = subst (λ (m : ℕ). length (take long (zeros 512)) + 1 + (m - get_or w 2 0) / 2 ≤ length a.output.now) (sym n) (omega (arith, d, c.words-long.ensures.0, p.w_in_bounds)) }

pub returns-then-w-le256 : goal.returns-then-w-le256
returns-then-w-le256 c =
    let a = c.args in
    let w = a.w.now in
    let t = c.of_sheet_within-count.ensures.powers in
    for_sheet w _ a.table.now a.output.now (points_of_sheet edition1 w _ t.0) t.1 c.search.ensures

pub of_sheet-size-requires : goal.of_sheet-size-requires
of_sheet-size-requires c =
    let w = c.args.w.now in record { in_bounds = (c.requires.in_bounds.0, fitting edition1 w c.requires.in_bounds.0 c.requires.in_bounds.1); pw_len = length_zeros 4096 }

pub slice_bounds-f-end : goal.slice_bounds-f-end
slice_bounds-f-end c =
    let w = c.args.w.now in
    omega (arith, c.words-long.ensures.0, degree_words w c.requires.in_bounds.0 c.requires.in_bounds.1)

pub slice_bounds-search-end-3 : goal.slice_bounds-search-end-3
slice_bounds-search-end-3 c =
    let w = c.args.w.now in
    sym (length-take-le _ (zeros 2048) (omega (arith, length_zeros 2048, c.words-long.ensures.0, degree_words w c.requires.in_bounds.0 c.requires.in_bounds.1)))

pub search-requires-2 : goal.search-requires-2
search-requires-2 c =
    let a = c.args in
    let w = a.w.now in
    let p = c.requires in
    let n = c.of_sheet-size.ensures.powers.1 in
    let all = degree_words w p.in_bounds.0 p.in_bounds.1 in
    let long = c.words-long.result in
    let d = length-take-le long (zeros 2048) (omega (arith, length_zeros 2048, c.words-long.ensures.0, all)) in record { sized = (sized w p.in_bounds.0 p.in_bounds.1 n, halves w p.in_bounds.0 p.in_bounds.1 n); table_len = (p.table_len ∙ ap (words_at (get_or w 0 0)) (sym n), (omega (arith, p.table_len, entries_small w p.in_bounds.0 p.in_bounds.1), (d ∙ c.words-long.ensures.0, omega (arith, d, c.words-long.ensures.0, all)))); d_in_bounds = subst (λ (m : ℕ). length (take long (zeros 2048)) + 1 + (m - get_or w 2 0) / 2 ≤ length a.output.now) (sym n) (omega (arith, d, c.words-long.ensures.0, p.w_in_bounds)) }

pub returns : goal.returns
returns c =
    let a = c.args in
    let w = a.w.now in
    let t = c.of_sheet-size.ensures.powers in
    for_sheet w _ a.table.now a.output.now (points_of_sheet edition1 w _ t.0) t.1 c.search-2.ensures
