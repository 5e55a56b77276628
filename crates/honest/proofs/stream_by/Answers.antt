use Prim.Native.Nat.{ℕ, ◌≤◌}
use native.Mathlib.Omega.{arith}
use mathlib.Core.List.{List}
use mathlib.Core.Path.{◌≡◌, ◌∙◌, ap, sym}
use lib.ListN.{get_or}
use Rattle.definition.specs.Field.{elements_in}
use Rattle.spelling.specs.ByField.{words_at}
use lib.Seq.{length-take-le}
use Rattle.definition.specs.Layout.{words_due}
use Rattle.definition.specs.Sheet.{Edition, sheet_length, sheet_of}
use Rattle.completeness.proofs.Allowed.{allowed_long}
use Rattle.layouts.specs.SheetRules.{short_sheet}
use Rattle.completeness.specs.Numbered.{Allowed}
use Rattle.edition.specs.Meaning.{edition_of}
use Rattle.honest_words.specs.Invariant.{words_from}
use Rattle.honest.proofs.Beginning.{first_coin, first_count, first_runs, first_invariant, stream_is, words_first}
use Rattle.list_laws.specs.LentParts.{begun_long, joined, others_long}
use Rattle.honest.proofs.stream_by.Goals as goal

-- `honest::stream_by` meets its contract: the sheet, and the words after it. Assumes nothing.
-- the sheet's words are among those due
head-inside : {ed : Edition} {w f coins : List ℕ} {head n : ℕ} → Allowed ed w f coins → n ≡ words_due ed (sheet_of ed w) → head ≡ sheet_length ed → head ≤ n
head-inside ok e q = omega (arith, words_first ok)

pub slice_bounds-copy-end : goal.slice_bounds-copy-end
slice_bounds-copy-end c =
    head-inside c.requires.allowed.0 c.requires.out_len c.sheet_words-head.ensures

pub slice_bounds-copy-end-2 : goal.slice_bounds-copy-end-2
slice_bounds-copy-end-2 c =
    let b = c.sheet_words-head in
    sym (length-take-le b.result c.args.out.now (head-inside c.requires.allowed.0 c.requires.out_len b.ensures))

pub copy-requires : goal.copy-requires
copy-requires c =
    let b = c.sheet_words-head in
    length-take-le b.result c.args.out.now (head-inside c.requires.allowed.0 c.requires.out_len b.ensures) ∙ b.ensures ∙ sym (allowed_long c.requires.allowed.0)

pub offset_bounds-out-head : goal.offset_bounds-out-head
offset_bounds-out-head c =
    omega (arith, c.sheet_words-head.ensures, short_sheet (edition_of c.args.e))

pub slice_bounds-transcript-count : goal.slice_bounds-transcript-count
slice_bounds-transcript-count c =
    let b = c.sheet_words-head in
    let p = c.copy in
    let l = head-inside c.requires.allowed.0 c.requires.out_len b.ensures in
    omega (arith, l, begun_long c.args.out.now p.new.out b.result l p.auto.out)

pub slice_bounds-transcript-start : goal.slice_bounds-transcript-start
slice_bounds-transcript-start c =
    let b = c.sheet_words-head in
    let p = c.copy in
    let l = head-inside c.requires.allowed.0 c.requires.out_len b.ensures in
    omega (arith, l, begun_long c.args.out.now p.new.out b.result l p.auto.out)

pub transcript-requires : goal.transcript-requires
transcript-requires c =
    let a = c.args in
    let ok = c.requires.allowed.0 in
    let b = c.sheet_words-head in
    let p = c.copy in
    let n = others_long a.out.now p.new.out b.result (head-inside ok c.requires.out_len b.ensures) p.auto.out in record { invariant = (first_invariant ok a.pw.now c.requires.powers.0 c.requires.powers.1, (first_count ok, c.requires.allowed.1)); w_in_bounds = (first_coin ok, (first_runs ok, n ∙ omega (arith, c.requires.out_len, words_first ok, b.ensures, ap (words_at (get_or a.w.now 0 0)) c.requires.powers.1))) }

pub returns : goal.returns
returns c =
    let a = c.args in
    let ok = c.requires.allowed.0 in
    let b = c.sheet_words-head in
    let p = c.copy in
    let v = c.transcript in
    joined a.out.now p.new.out b.result (head-inside ok c.requires.out_len b.ensures) p.auto.out v.new.out
    {x = a.w.now} {y = words_from (sheet_of (edition_of a.e) a.w.now) (elements_in (sheet_of (edition_of a.e) a.w.now).spelling a.f.now) a.coins.now} p.ensures v.ensures
    ∙ stream_is ok
