use Prim.Native.Nat.{◌*◌, ◌/◌}
use mathlib.Core.Path.{◌∙◌}
use lib.ListN.{length}
use Rattle.definition.specs.Block.{stream_of}
use Rattle.definition.specs.Convert.{backward, folds_test, to_edition1}
use Rattle.definition.specs.Reading.{reading}
use Rattle.definition.specs.Sheet.{edition2, sheet_of}
use Rattle.definition.specs.Verdict.{◌then◌}
use Rattle.list_laws.specs.Lists.{rest_all}
use Rattle.layouts.specs.Tests.{then_passes}
use Rattle.reading.specs.Passed.{words_there}
use Rattle.convert.proofs.Begun.{backward_begins, begun_is, begun_there}
use Rattle.convert.specs.Stages.{ready, refused_is, written_is}
use Rattle.convert.proofs.backward.Goals as goal

pub returns-in_default : goal.returns-in_default
unfolding to_edition1
returns-in_default c =
    let a = c.args in
    let f = a.file.now in
    refused_is (reading edition2 f then folds_test (sheet_of edition2 (stream_of f))) (backward (stream_of f)) a.output.now c.backward_tests-tests.ensures c.in_default.is

pub write-requires : goal.write-requires
write-requires c =
    let a = c.args in
    let f = a.file.now in
    let ok = ready (reading edition2 f then folds_test (sheet_of edition2 (stream_of f))) (backward (stream_of f)) a.output.now c.backward_tests-tests.ensures c.in-Done.is in
    let there = words_there edition2 f (then_passes (reading edition2 f) _ ok.passed).0 in
    let all = backward_begins c.backward_tests-tests.new.words (stream_of f) (127 * (length f / 512)) ok.stream there (rest_all 6 c.cut_sheet.new.words ∙ c.cut_sheet.ensures) in
    (begun_there (backward (stream_of f)) _ all ok.words, ok.size)

pub returns : goal.returns
unfolding to_edition1
returns c =
    let a = c.args in
    let f = a.file.now in
    let ok = ready (reading edition2 f then folds_test (sheet_of edition2 (stream_of f))) (backward (stream_of f)) a.output.now c.backward_tests-tests.ensures c.in-Done.is in
    let there = words_there edition2 f (then_passes (reading edition2 f) _ ok.passed).0 in
    let all = backward_begins c.backward_tests-tests.new.words (stream_of f) (127 * (length f / 512)) ok.stream there (rest_all 6 c.cut_sheet.new.words ∙ c.cut_sheet.ensures) in
    written_is ok (begun_is (backward (stream_of f)) _ all ok.words) c.write.ensures.result_value c.write.ensures.output_after
