use Prim.Native.Nat.{◌+◌}
use native.Mathlib.Omega.{arith}
use mathlib.Core.Path.{◌∙◌, refl}
use lib.ListN.{get_or, length}
use Rattle.definition.specs.Field.{spelling_of}
use Rattle.definition.specs.Sheet.{sheet_of}
use Rattle.edition.specs.Meaning.{edition_of}
use Rattle.layouts.specs.Spellings.{read_length}
use Rattle.spelling.specs.ByField.{elements_at}
use Rattle.level_words.specs.Words.{shifts_part}
use Rattle.round_words.proofs.Made.{by_field, by_sheet, coins_at_lem, outs_at_lem, outs_part, outs_words, replies_part, shifts_at_lem, table_part}
use Rattle.round_words.proofs.Ready.{answer_ready, clear_table, combination_there, distinct_parts, fits_table, room_most, table_small}
use Rattle.round_words.proofs.next_samples.Goals as goal

pub words-requires : goal.words-requires
words-requires c =
    let a = c.args in
    omega (arith, combination_there (edition_of a.e) (sheet_of (edition_of a.e) a.w.now) a.w.now a.state c.requires.round_inside)

pub overflow_add-outs : goal.overflow_add-outs
overflow_add-outs c =
    let a = c.args in
    let i = c.requires.round_inside in
    omega (arith, i.there, outs_at_lem (sheet_of (edition_of a.e) a.w.now) a.state _ i.numbers.spelling i.numbers.outs c.words-many.ensures.0 c.words.ensures.0)

pub overflow_add-replies : goal.overflow_add-replies
overflow_add-replies c =
    let a = c.args in
    let i = c.requires.round_inside in
    omega (arith, i.there, coins_at_lem (sheet_of (edition_of a.e) a.w.now) a.state _ i.numbers.spelling i.numbers.outs c.words-many.ensures.0 c.words.ensures.0)

pub words-requires-2 : goal.words-requires-2
words-requires-2 c =
    let a = c.args in
    omega (arith, table_small (sheet_of (edition_of a.e) a.w.now) a.w.now a.state a.oracle c.requires.table_inside)

pub part-requires : goal.part-requires
part-requires c =
    let a = c.args in
    let i = c.requires.round_inside in
    omega (arith, c.requires.table_inside.table, by_sheet (sheet_of (edition_of a.e) a.w.now) _ i.numbers.spelling c.words-2.ensures.0 refl)

pub overflow_add-replies-2 : goal.overflow_add-replies-2
overflow_add-replies-2 c =
    let a = c.args in
    let i = c.requires.round_inside in
    omega (arith, i.there, coins_at_lem (sheet_of (edition_of a.e) a.w.now) a.state _ i.numbers.spelling i.numbers.outs c.words-many.ensures.0 c.words.ensures.0)

pub overflow_add-replies-3 : goal.overflow_add-replies-3
overflow_add-replies-3 c =
    let a = c.args in
    let i = c.requires.round_inside in
    omega (arith, i.there, shifts_at_lem (sheet_of (edition_of a.e) a.w.now) a.state _ i.numbers.spelling i.numbers.outs c.words-many.ensures.0 c.words.ensures.0 c.words-3.ensures.0)

pub part-requires-2 : goal.part-requires-2
part-requires-2 c =
    let a = c.args in
    let i = c.requires.round_inside in
    omega (arith, i.there, i.numbers.times, shifts_at_lem (sheet_of (edition_of a.e) a.w.now) a.state _ i.numbers.spelling i.numbers.outs c.words-many.ensures.0 c.words.ensures.0 c.words-3.ensures.0)

pub part-requires-3 : goal.part-requires-3
part-requires-3 c =
    let a = c.args in
    let i = c.requires.round_inside in
    omega (arith, i.there, coins_at_lem (sheet_of (edition_of a.e) a.w.now) a.state _ i.numbers.spelling i.numbers.outs c.words-many.ensures.0 c.words.ensures.0)

pub part-requires-4 : goal.part-requires-4
part-requires-4 c =
    let a = c.args in
    let i = c.requires.round_inside in
    omega (arith, i.there, coins_at_lem (sheet_of (edition_of a.e) a.w.now) a.state _ i.numbers.spelling i.numbers.outs c.words-many.ensures.0 c.words.ensures.0)

pub gather_round-requires : goal.gather_round-requires
gather_round-requires c =
    let a = c.args in
    let ed = edition_of a.e in
    let w = a.w.now in
    let st = a.state in
    let h = sheet_of ed w in
    let p = c.requires in
    let ok = p.table_inside in
    let i = p.round_inside in
    let e = i.numbers.spelling in
    let eo = i.numbers.outs in
    let m = c.words-many.ensures.0 in
    let half = c.words.ensures.0 in
    let many = outs_words h st _ e eo m half in
    let outs = outs_at_lem h st _ e eo m half in
    let t = c.part in
    let et = t.ensures ∙ table_part h w st (by_sheet h _ e c.words-2.ensures.0 refl) in
    let js = c.part-2 in
    let o = c.part-3 in
    let y = c.part-4 in
    let k = c.fold.ensures.0 ∙ i.numbers.fold in
    let r = answer_ready ed h w st a.oracle ok e t.result.now et k i js.result.now o.result.now y.result.now a.px.now a.py.now
    (js.ensures ∙ shifts_part h w st (shifts_at_lem h st _ e eo m half c.words-3.ensures.0) i.numbers.times) (o.ensures ∙ outs_part h w st outs many) (y.ensures ∙ replies_part h w st outs many)
    p.px_len.0 p.px_len.1 in record {
      ac_len = clear_table ed h w st a.oracle ok e t.result.now et k a.pw.now a.vg.now p.clear;
      fits = fits_table ed h w st a.oracle ok e t.result.now et k;
      below = r.0;
      py_len = r.1.0;
      px_len_bound = r.1.1;
    }

pub returns : goal.returns
returns c =
    let a = c.args in
    let ed = edition_of a.e in
    let w = a.w.now in
    let st = a.state in
    let h = sheet_of ed w in
    let p = c.requires in
    let ok = p.table_inside in
    let i = p.round_inside in
    let e = i.numbers.spelling in
    let eo = i.numbers.outs in
    let m = c.words-many.ensures.0 in
    let half = c.words.ensures.0 in
    let many = outs_words h st _ e eo m half in
    let outs = outs_at_lem h st _ e eo m half in
    let t = c.part in
    let et = t.ensures ∙ table_part h w st (by_sheet h _ e c.words-2.ensures.0 refl) in
    let js = c.part-2 in
    let o = c.part-3 in
    let y = c.part-4 in
    let k = c.fold.ensures.0 ∙ i.numbers.fold in
    let q = c.gather_round in
    let es = js.ensures ∙ shifts_part h w st (shifts_at_lem h st _ e eo m half c.words-3.ensures.0) i.numbers.times in
    let er = o.ensures ∙ outs_part h w st outs many in
    let ey = y.ensures ∙ replies_part h w st outs many in
    let field = get_or w 0 0 in
    let lx = read_length (spelling_of field) 50 a.px.now (by_field h field e 50 p.px_len.0) in
    let r = answer_ready ed h w st a.oracle ok e t.result.now et k i js.result.now o.result.now y.result.now a.px.now a.py.now es er ey p.px_len.0 p.px_len.1 in record {
      next_samples = distinct_parts ed w a.pw.now a.ac.now a.vg.now st a.r a.oracle t.result.now et k js.result.now o.result.now y.result.now q.result
          q.new.px q.new.py es er ey q.ensures.answered;
      room = room_most (length (elements_at field a.px.now)) (length (elements_at field o.result.now) + length js.result.now) q.result lx (omega (arith, lx, r.1.0.1.1)) q.ensures.room;
    }
