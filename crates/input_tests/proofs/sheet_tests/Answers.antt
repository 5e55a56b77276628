use mathlib.Core.Path.{sym}
use mathlib.Core.Option.{some}
use Rattle.definition.specs.Verdict.{refuse_at}
use Rattle.edition.specs.Meaning.{edition_of}
use Rattle.outcome.specs.Answers.{at_place, nowhere}
use Rattle.outcome.specs.Meaning.{outcome_of}
use Rattle.sheet.specs.Rules.{none_broken, refusal_of}
use Rattle.input_tests.proofs.Stages.{all_words, other_length_lem}
use Rattle.input_tests.proofs.sheet_tests.Goals as goal

pub returns-then-w-sheet_words : goal.returns-then-w-sheet_words
unfolding outcome_of
returns-then-w-sheet_words c = other_length_lem (edition_of c.args.e) c.args.w.now c.sheet_words.ensures c.if-w-sheet_words.true

pub returns-in-Some : goal.returns-in-Some
unfolding outcome_of refuse_at
returns-in-Some c =
    let ed = edition_of c.args.e in
    let w = c.args.w.now in
    all_words ed w c.sheet_words.ensures c.if-w-sheet_words.false
    (refusal_of ed w (some c.in-Some.place) (at_place c.broken-broken.ensures c.in-Some.is))

pub returns : goal.returns
unfolding outcome_of
returns c =
    let ed = edition_of c.args.e in
    let w = c.args.w.now in
    all_words ed w c.sheet_words.ensures c.if-w-sheet_words.false (sym (none_broken ed w (nowhere c.broken-broken.ensures c.in_default.is)))
