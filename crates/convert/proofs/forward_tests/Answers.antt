use mathlib.Core.Path.{sym}
use lib.Seq.{length-take-le}
use native.Mathlib.Omega.{arith}
use Rattle.definition.specs.Sheet.{edition1}
use Rattle.edition.specs.Meaning.{edition_of}
use Rattle.convert.specs.Stages.{due_is, first_refuses, forward_count, head_passes, refuses, tests_end, tests_refuse, accepted_is}
use Rattle.convert.proofs.forward_tests.Goals as goal

pub returns-in-Refused : goal.returns-in-Refused
unfolding edition_of
returns-in-Refused c =
    tests_refuse (first_refuses _ (refuses c.read-read.ensures.outcome c.in-Refused.is))

pub slice_bounds-words_due-end-2 : goal.slice_bounds-words_due-end-2
slice_bounds-words_due-end-2 c =
    sym (length-take-le 12 c.read-read.new.words (omega (arith, c.requires.1, c.read-read.auto.words)))

pub words_due-requires : goal.words_due-requires
unfolding edition_of
words_due-requires c =
    let p = accepted_is c.read-read.ensures.outcome c.in_default.is in
    head_passes edition1 c.args.file.now c.read-read.new.words p (c.read-read.ensures.stream p)

pub returns : goal.returns
unfolding edition_of
returns c =
    let f = c.args.file.now in
    let p = accepted_is c.read-read.ensures.outcome c.in_default.is in
    let st = c.read-read.ensures.stream p in
    tests_end p (forward_count f p (due_is edition1 f c.read-read.new.words p st c.words_due.ensures.0)) st c.output_test.ensures
