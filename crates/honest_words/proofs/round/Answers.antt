use native.Mathlib.Omega.{arith}
use Prim.Native.Nat.{◌+◌, ◌*◌, ◌/◌}
use mathlib.Core.Path.{◌∙◌, sym}
use lib.ListN.{length, get_or}
use Rattle.layouts.specs.Levels.{level_of}
use Rattle.edition.specs.Meaning.{edition_of}
use Rattle.definition.specs.Sheet.{sheet_of}
use Rattle.list_laws.specs.LentParts.{begun_long, joined, others_long}
use Rattle.honest_words.specs.Sizes.{next_on_level, next_scale, next_size, sizes}
use Rattle.honest_words.proofs.Words.{coined, early, later_long, later_words_lem, outs_long, outs_whole, outs_words, round_is, table_fits, table_long, table_size, table_whole}
use Rattle.honest_words.proofs.round.Goals as goal

-- `honest_words::round` meets its contract. The table, and the words after it. Assumes nothing.
pub overflow_add-t : goal.overflow_add-t
overflow_add-t c = omega (arith, early {P = Unit {0}} (c.requires.invariant, tt))

pub offset_bounds-w-level : goal.offset_bounds-w-level
offset_bounds-w-level c = omega (arith, early {P = Unit {0}} (c.requires.invariant, tt))

pub bounds-w-level : goal.bounds-w-level
bounds-w-level c = omega (arith, early {P = Unit {0}} (c.requires.invariant, tt))

pub overflow_mul-n : goal.overflow_mul-n
overflow_mul-n c =
    omega (arith, (sizes c.requires.invariant.0).small)

pub nonzero_div-n : goal.nonzero_div-n
nonzero_div-n c =
    omega (arith, (sizes c.requires.invariant.0).scaled)

pub overflow_mul-n-2 : goal.overflow_mul-n-2
overflow_mul-n-2 c =
    let a = c.args in
    let d = c.width-width in
    omega (arith, (coined d.result a.out.now (c.requires.invariant, (c.requires.g_len, c.requires.round_coins_fit)) d.ensures).whole)

pub overflow_mul-a : goal.overflow_mul-a
overflow_mul-a c =
    let a = c.args in
    let d = c.width-width in
    omega (arith, (coined d.result a.out.now (c.requires.invariant, (c.requires.g_len, c.requires.round_coins_fit)) d.ensures).few)

pub overflow_mul-b : goal.overflow_mul-b
overflow_mul-b c =
    let a = c.args in
    let d = c.width-width in
    let k = coined d.result a.out.now (c.requires.invariant, (c.requires.g_len, c.requires.round_coins_fit)) d.ensures in
    omega (arith, k.more, k.few, k.narrow)

pub overflow_add-b-2 : goal.overflow_add-b-2
overflow_add-b-2 c =
    let a = c.args in
    let d = c.width-width in
    let k = coined d.result a.out.now (c.requires.invariant, (c.requires.g_len, c.requires.round_coins_fit)) d.ensures in
    omega (arith, k.more, k.few, k.narrow, k.shifts)

pub overflow_mul-scale : goal.overflow_mul-scale
overflow_mul-scale c =
    omega (arith, (sizes c.requires.invariant.0).small)

pub slice_bounds-table-end : goal.slice_bounds-table-end
slice_bounds-table-end c =
    let a = c.args in
    let d = c.width-width in
    table_fits d.result a.out.now (c.requires.invariant, (c.requires.g_len, c.requires.round_coins_fit)) d.ensures

pub slice_bounds-table-end-2 : goal.slice_bounds-table-end-2
slice_bounds-table-end-2 c =
    let a = c.args in
    let d = c.width-width in
    sym (table_long d.result a.out.now (c.requires.invariant, (c.requires.g_len, c.requires.round_coins_fit)) d.ensures)

pub table-requires : goal.table-requires
table-requires c =
    let a = c.args in
    let d = c.width-width in record { on_level = next_on_level c.requires.invariant.0 c.requires.invariant.1 _ _ c.requires.g_len (table_size d.result a.out.now (c.requires.invariant, (c.requires.g_len, c.requires.round_coins_fit)) d.ensures); out_len = table_whole d.result a.out.now (c.requires.invariant, (c.requires.g_len, c.requires.round_coins_fit)) d.ensures }

pub slice_bounds-after_table-end : goal.slice_bounds-after_table-end
slice_bounds-after_table-end c =
    let a = c.args in
    let d = c.width-width in
    sym (outs_long d.result a.out.now (c.requires.invariant, (c.requires.g_len, c.requires.round_coins_fit)) d.ensures)

pub offset_bounds-coins-a : goal.offset_bounds-coins-a
offset_bounds-coins-a c =
    let a = c.args in
    let d = c.width-width in
    omega (arith, (coined d.result a.out.now (c.requires.invariant, (c.requires.g_len, c.requires.round_coins_fit)) d.ensures).few)

pub slice_bounds-after_table-end-2 : goal.slice_bounds-after_table-end-2
slice_bounds-after_table-end-2 c =
    let a = c.args in
    let d = c.width-width in
    let k = coined d.result a.out.now (c.requires.invariant, (c.requires.g_len, c.requires.round_coins_fit)) d.ensures in
    omega (arith, k.more, k.there)

pub offset_bounds-out-n : goal.offset_bounds-out-n
offset_bounds-out-n c =
    let a = c.args in
    let d = c.width-width in
    omega (arith, (coined d.result a.out.now (c.requires.invariant, (c.requires.g_len, c.requires.round_coins_fit)) d.ensures).whole)

pub slice_bounds-after_table-count-2 : goal.slice_bounds-after_table-count-2
slice_bounds-after_table-count-2 c =
    let a = c.args in
    let d = c.width-width in
    let t = c.table in
    omega (arith, table_fits d.result a.out.now (c.requires.invariant, (c.requires.g_len, c.requires.round_coins_fit)) d.ensures, begun_long a.out.now t.new.out (d.result * (length a.pw.now / (2 * a.scale))) (table_fits d.result a.out.now (c.requires.invariant, (c.requires.g_len, c.requires.round_coins_fit)) d.ensures) t.auto.out)

pub slice_bounds-after_table-start-2 : goal.slice_bounds-after_table-start-2
slice_bounds-after_table-start-2 c =
    let a = c.args in
    let d = c.width-width in
    let t = c.table in
    omega (arith, table_fits d.result a.out.now (c.requires.invariant, (c.requires.g_len, c.requires.round_coins_fit)) d.ensures, begun_long a.out.now t.new.out (d.result * (length a.pw.now / (2 * a.scale))) (table_fits d.result a.out.now (c.requires.invariant, (c.requires.g_len, c.requires.round_coins_fit)) d.ensures) t.auto.out)

pub after_table-requires : goal.after_table-requires
after_table-requires c =
    let a = c.args in
    let d = c.width-width in
    let t = c.table in (
      others_long a.out.now t.new.out (d.result * (length a.pw.now / (2 * a.scale))) (table_fits d.result a.out.now (c.requires.invariant, (c.requires.g_len, c.requires.round_coins_fit)) d.ensures) t.auto.out
          ∙ omega (arith, (coined d.result a.out.now (c.requires.invariant, (c.requires.g_len, c.requires.round_coins_fit)) d.ensures).whole, outs_long d.result a.out.now (c.requires.invariant, (c.requires.g_len, c.requires.round_coins_fit)) d.ensures, later_long d.result a.out.now (c.requires.invariant, (c.requires.g_len, c.requires.round_coins_fit)) d.ensures),
      outs_whole d.result a.out.now (c.requires.invariant, (c.requires.g_len, c.requires.round_coins_fit)) d.ensures,
    )

pub returns : goal.returns
returns c =
    let a = c.args in
    let d = c.width-width in
    let t = c.table in
    let v = c.after_table in
    let h = sheet_of (edition_of a.e) a.w.now in
    let own = t.ensures (level_of h (a.level + 1)) (sym (next_scale c.requires.invariant.0)) (sym (table_size d.result a.out.now (c.requires.invariant, (c.requires.g_len, c.requires.round_coins_fit)) d.ensures ∙ next_size c.requires.invariant.0)) in
    joined a.out.now t.new.out (d.result * (length a.pw.now / (2 * a.scale))) (table_fits d.result a.out.now (c.requires.invariant, (c.requires.g_len, c.requires.round_coins_fit)) d.ensures) t.auto.out v.new.out own v.ensures
    ∙ round_is (edition_of a.e) a.w.now c.requires.round_coins_fit.0 (d.result * (get_or a.w.now 5 0 + 2) + get_or a.w.now (6 + a.level) 0) (outs_words d.result a.out.now (c.requires.invariant, (c.requires.g_len, c.requires.round_coins_fit)) d.ensures) (later_words_lem d.result a.out.now (c.requires.invariant, (c.requires.g_len, c.requires.round_coins_fit)) d.ensures) a.g.now
