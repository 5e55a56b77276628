use native.Mathlib.Omega.{arith}
use mathlib.Core.Path.{◌∙◌, refl, sym}
use lib.ListN.{length, get_or, take}
use lib.Seq.{length-take-le}
use Rattle.definition.specs.Field.{elements_in, spelling_of, words_of}
use Rattle.definition.specs.Prover.{table_of}
use Rattle.definition.specs.Sheet.{sheet_of}
use Rattle.layouts.proofs.LevelsByNumber.{undivided}
use Rattle.layouts.specs.Levels.{level_of, sheet_field, sheet_root}
use Rattle.list_laws.specs.LentParts.{joined, others_long}
use Rattle.edition.specs.Meaning.{edition_of}
use Rattle.spelling.specs.Words.{elements_many}
use Rattle.honest_words.proofs.Words.{whole_part}
use Rattle.honest_words.specs.Invariant.{opening_from}
use Rattle.honest_words.specs.Sizes.{numbers, sizes}
use Rattle.honest.proofs.transcript.Goals as goal

-- `honest::transcript` meets its contract. Assumes nothing.
pub bounds-w-0 : goal.bounds-w-0
bounds-w-0 c =
    omega (arith, (numbers c.requires.invariant.0.place).twelve)

pub words-n-requires : goal.words-n-requires
words-n-requires c =
    omega (arith, (sizes c.requires.invariant.0).points_most)

pub slice_bounds-table-end : goal.slice_bounds-table-end
slice_bounds-table-end c =
    omega (arith, c.words-n.ensures.0, c.requires.w_in_bounds.1.1)

pub slice_bounds-table-end-2 : goal.slice_bounds-table-end-2
slice_bounds-table-end-2 c =
    let a = c.args in
    let p = c.requires in
    let u = c.words-n in
    sym (length-take-le u.result a.out.now (omega (arith, u.ensures.0, p.w_in_bounds.1.1)))

pub table-requires : goal.table-requires
table-requires c =
    let a = c.args in
    let p = c.requires in
    let u = c.words-n in
    let h = sheet_of (edition_of a.e) a.w.now in
    let W = get_or a.w.now 0 0 in
    let l = length-take-le u.result a.out.now (omega (arith, u.ensures.0, p.w_in_bounds.1.1)) ∙ u.ensures.0 in
    let m = elements_many (spelling_of W) (length a.pw.now) (take u.result a.out.now) l in record { on_level = record { number = 0; invariant = p.invariant.0; degree = p.invariant.1.0; size = m ∙ p.invariant.0.points ∙ sym (undivided h.size) }; out_len = whole_part W (length a.pw.now) (take u.result a.out.now) l }

pub after_first-requires : goal.after_first-requires
after_first-requires c =
    let a = c.args in
    let p = c.requires in
    let u = c.words-n in
    let t = c.table in record { invariant = p.invariant; w_in_bounds = (p.w_in_bounds.0, (p.w_in_bounds.1.0, others_long a.out.now t.new.out u.result (omega (arith, u.ensures.0, p.w_in_bounds.1.1)) t.auto.out ∙ omega (arith, u.ensures.0, p.w_in_bounds.1.1))) }

pub returns : goal.returns
returns c =
    let a = c.args in
    let p = c.requires in
    let u = c.words-n in
    let h = sheet_of (edition_of a.e) a.w.now in
    let W = get_or a.w.now 0 0 in
    let l = length-take-le u.result a.out.now (omega (arith, u.ensures.0, p.w_in_bounds.1.1)) ∙ u.ensures.0 in
    let m = elements_many (spelling_of W) (length a.pw.now) (take u.result a.out.now) l in
    let t = c.table in
    let v = c.after_first in
    let own = t.ensures (level_of h 0) refl (sym (m ∙ p.invariant.0.points ∙ sym (undivided h.size))) in
    joined a.out.now t.new.out u.result (omega (arith, u.ensures.0, p.w_in_bounds.1.1)) t.auto.out v.new.out
    {x = words_of h.spelling (table_of (sheet_field h) (sheet_root h) (level_of h 0) (elements_in h.spelling a.f.now))} {y = opening_from h (elements_in h.spelling a.f.now) a.coins.now} own v.ensures
