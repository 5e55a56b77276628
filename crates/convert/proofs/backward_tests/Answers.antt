use native.Mathlib.Omega.{arith}
use mathlib.Core.Path.{sym, ap, ◌∙◌}
use lib.Seq.{length-take-le}
use Rattle.definition.specs.Convert.{folds_test}
use Rattle.definition.specs.Layout.{words_due}
use Rattle.definition.specs.Sheet.{edition2}
use Rattle.layouts.specs.SheetRules.{rounds_most}
use Rattle.edition.specs.Meaning.{edition_of}
use Rattle.convert.specs.Stages.{backward_count, due_is, first_refuses, found_refuses, head_is, head_passes, next_is, nothing_passes, refuses, tests_end, tests_refuse, accepted_is}
use Rattle.convert.proofs.backward_tests.Goals as goal

pub returns-in-Refused : goal.returns-in-Refused
unfolding edition_of
returns-in-Refused c =
    tests_refuse (first_refuses _ (first_refuses _ (refuses c.read-read.ensures.outcome c.in-Refused.is)))

pub slice_bounds-head-end-2 : goal.slice_bounds-head-end-2
slice_bounds-head-end-2 c =
    sym (length-take-le 18 c.read-read.new.words (omega (arith, c.requires.1, c.read-read.auto.words)))

pub other_fold-other-requires : goal.other_fold-other-requires
unfolding edition_of
other_fold-other-requires c =
    let p = accepted_is c.read-read.ensures.outcome c.in_default.is in
    let h = head_passes edition2 c.args.file.now c.read-read.new.words p (c.read-read.ensures.stream p) in
    (h.0, rounds_most edition2 _ h.1)

pub returns-in-Some : goal.returns-in-Some
unfolding edition_of
returns-in-Some c =
    let f = c.args.file.now in
    let p = accepted_is c.read-read.ensures.outcome c.in_default.is in
    let h = c.other_fold-other.ensures ∙ ap folds_test (head_is edition2 f c.read-read.new.words p (c.read-read.ensures.stream p)) in
    tests_refuse (first_refuses _ (found_refuses h c.in-Some.is ∙ sym (next_is _ p)))

pub words_due-requires : goal.words_due-requires
unfolding edition_of
words_due-requires c =
    let p = accepted_is c.read-read.ensures.outcome c.in_default.is in
    head_passes edition2 c.args.file.now c.read-read.new.words p (c.read-read.ensures.stream p)

pub overflow_sub-words_due : goal.overflow_sub-words_due
unfolding edition_of words_due
overflow_sub-words_due c = omega (arith, c.words_due.ensures.0)

pub returns : goal.returns
unfolding edition_of
returns c =
    let f = c.args.file.now in
    let w = c.read-read.new.words in
    let p = accepted_is c.read-read.ensures.outcome c.in_default.is in
    let st = c.read-read.ensures.stream p in
    let equal = nothing_passes 13 (c.other_fold-other.ensures ∙ ap folds_test (head_is edition2 f w p st)) c.in_default-other.is in
    tests_end (next_is _ p ∙ equal) (backward_count f p equal (due_is edition2 f w p st c.words_due.ensures.0)) st c.output_test.ensures
