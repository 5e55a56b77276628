use Prim.Native.Nat.{◌+◌, ◌*◌, ◌/◌, ◌≤◌}
use native.Mathlib.Omega.{arith}
use mathlib.Core.Path.{sym}
use lib.ListN.{length}
use lib.Seq.{length-take-le}
use Rattle.layouts.specs.SheetRules.{short_sheet}
use Rattle.edition.specs.Meaning.{edition_of}
use Rattle.outcome.specs.Answers.{at_place, nowhere}
use Rattle.outcome.specs.Meaning.{outcome_of}
use Rattle.sheet.specs.Rules.{none_broken}
use Rattle.reading.proofs.StageLaws.{due_fits, front_broken, front_due, front_holds, front_long, front_passes, front_words, in_block, in_blocks, other_blocks, sheet_broken, whole}
use Rattle.reading.proofs.after_checks.Goals as goal

pub slice_bounds-head-end : goal.slice_bounds-head-end
slice_bounds-head-end c =
    sym (length-take-le _ c.args.words.now (omega (arith, c.requires, c.sheet_words-first.ensures, short_sheet (edition_of c.args.e))))

pub broken-broken-requires : goal.broken-broken-requires
broken-broken-requires c =
    let ed = edition_of c.args.e in
    front_long ed c.args.words.now c.sheet_words-first.ensures (omega (arith, c.requires, c.sheet_words-first.ensures, short_sheet ed))

pub returns-in-Some : goal.returns-in-Some
unfolding outcome_of
returns-in-Some c = λ w l.
    let ed = edition_of c.args.e in
    sheet_broken ed c.requires.1 l c.in-Some.place
    (front_broken ed c.args.words.now c.sheet_words-first.ensures (at_place c.broken-broken.ensures c.in-Some.is))

pub words_due-due-requires : goal.words_due-due-requires
words_due-due-requires c =
    let ed = edition_of c.args.e in
    let q = c.sheet_words-first.ensures in (
      front_long ed c.args.words.now q (omega (arith, c.requires, q, short_sheet ed)),
      none_broken ed _ (nowhere c.broken-broken.ensures c.in_default.is),
    )

pub returns-then-blocks-needed : goal.returns-then-blocks-needed
unfolding outcome_of
returns-then-blocks-needed c = λ w l.
    let ed = edition_of c.args.e in
    let words = c.args.words.now in
    let q = c.sheet_words-first.ensures in
    other_blocks ed c.requires.1 l (front_holds ed words q (nowhere c.broken-broken.ensures c.in_default.is))
    ((c.words_due-due.result + 126) / 127) (front_due ed words q (in_blocks c.words_due-due.ensures.0)) c.if-blocks-needed.true

pub slice_bounds-body-end : goal.slice_bounds-body-end
slice_bounds-body-end c =
    sym (length-take-le (127 * c.args.blocks) c.args.words.now (omega (arith, c.requires.0, c.if-blocks-needed.false, c.words_due-due.ensures.1)))

pub body-requires : goal.body-requires
body-requires c =
    let ed = edition_of c.args.e in
    let words = c.args.words.now in
    let q = c.sheet_words-first.ensures in
    let enough : 127 * c.args.blocks ≤ length words = omega (arith, c.requires.0, c.if-blocks-needed.false, c.words_due-due.ensures.1) in
    let passed = front_holds ed words q (nowhere c.broken-broken.ensures c.in_default.is) in record { w_value = front_passes ed words (127 * c.args.blocks) (in_block ed c.args.blocks c.requires.1) enough passed; due_value = due_fits ed words c.args.blocks c.words_due-due.result enough c.requires.1 passed c.if-blocks-needed.false (front_words ed words q c.words_due-due.ensures.0) }

pub returns : goal.returns
returns c = λ w l.
    let ed = edition_of c.args.e in
    let words = c.args.words.now in
    let q = c.sheet_words-first.ensures in
    whole ed c.requires.1 l (front_holds ed words q (nowhere c.broken-broken.ensures c.in_default.is))
    ((c.words_due-due.result + 126) / 127) (front_due ed words q (in_blocks c.words_due-due.ensures.0)) c.if-blocks-needed.false (omega (arith, c.words_due-due.ensures.1)) c.body.ensures
