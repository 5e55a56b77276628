use native.Mathlib.Omega.{arith}
use mathlib.Core.Path.{◌∙◌, refl}
use Rattle.definition.specs.Sheet.{sheet_of}
use Rattle.edition.specs.Meaning.{edition_of}
use Rattle.round_words.proofs.Made.{by_sheet, coefficients_part, finals_part, table_part}
use Rattle.round_words.proofs.Ready.{clear_table, differing_parts, final_ready, final_small, final_words, fits_table, table_small}
use Rattle.round_words.proofs.final_difference.Goals as goal

pub words-d-requires : goal.words-d-requires
words-d-requires c =
    let a = c.args in
    let i = c.requires.final_inside in
    omega (arith, final_small (edition_of a.e) (sheet_of (edition_of a.e) a.w.now) a.w.now a.state i (c.fold-k.ensures.0 ∙ i.numbers.fold))

pub words-requires : goal.words-requires
words-requires c =
    let a = c.args in
    omega (arith, table_small (sheet_of (edition_of a.e) a.w.now) a.w.now a.state a.oracle c.requires.table_inside)

pub part-requires : goal.part-requires
part-requires c =
    let a = c.args in
    let i = c.requires.final_inside in
    omega (arith, c.requires.table_inside.table, by_sheet (sheet_of (edition_of a.e) a.w.now) _ i.numbers.spelling c.words.ensures.0 refl)

pub part-requires-2 : goal.part-requires-2
part-requires-2 c =
    let a = c.args in
    let i = c.requires.final_inside in
    omega (arith, i.there, final_words (edition_of a.e) (sheet_of (edition_of a.e) a.w.now) a.w.now a.state i (c.fold-k.ensures.0 ∙ i.numbers.fold) c.words-d.ensures.0)

pub overflow_add-state : goal.overflow_add-state
overflow_add-state c =
    let a = c.args in
    let i = c.requires.final_inside in
    omega (arith, i.there, final_words (edition_of a.e) (sheet_of (edition_of a.e) a.w.now) a.w.now a.state i (c.fold-k.ensures.0 ∙ i.numbers.fold) c.words-d.ensures.0)

pub part-requires-3 : goal.part-requires-3
part-requires-3 c =
    let a = c.args in
    let i = c.requires.final_inside in
    omega (arith, i.there, i.numbers.times, final_words (edition_of a.e) (sheet_of (edition_of a.e) a.w.now) a.w.now a.state i (c.fold-k.ensures.0 ∙ i.numbers.fold) c.words-d.ensures.0)

pub compare_finals-requires : goal.compare_finals-requires
compare_finals-requires c =
    let a = c.args in
    let ed = edition_of a.e in
    let w = a.w.now in
    let h = sheet_of ed w in
    let ok = c.requires.table_inside in
    let i = c.requires.final_inside in
    let e = i.numbers.spelling in
    let t = c.part in
    let f = c.part-3 in
    let k = c.fold-k.ensures.0 ∙ i.numbers.fold in
    let d = final_words ed h w a.state i k c.words-d.ensures.0 in
    let et = t.ensures ∙ table_part h w a.state (by_sheet h _ e c.words.ensures.0 refl) in record { ac_len = clear_table ed h w a.state a.oracle ok e t.result.now et k a.pw.now a.vg.now c.requires.clear; fits = fits_table ed h w a.state a.oracle ok e t.result.now et k; below = final_ready ed h w a.state a.oracle ok e t.result.now et k i f.result.now (f.ensures ∙ finals_part h w a.state d i.numbers.times) }

pub returns : goal.returns
returns c =
    let a = c.args in
    let ed = edition_of a.e in
    let w = a.w.now in
    let h = sheet_of ed w in
    let i = c.requires.final_inside in
    let t = c.part in
    let g = c.part-2 in
    let f = c.part-3 in
    let k = c.fold-k.ensures.0 ∙ i.numbers.fold in
    let d = final_words ed h w a.state i k c.words-d.ensures.0 in
    let et = t.ensures ∙ table_part h w a.state (by_sheet h _ i.numbers.spelling c.words.ensures.0 refl) in
    differing_parts ed w a.pw.now a.ac.now a.vg.now a.state a.r a.oracle t.result.now et k g.result.now f.result.now
    (g.ensures ∙ coefficients_part h w a.state d) (f.ensures ∙ finals_part h w a.state d i.numbers.times) c.compare_finals.ensures
