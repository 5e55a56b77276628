use Prim.Native.Nat.{◌-◌, ◌*◌, ◌/◌}
use native.Mathlib.Omega.{arith}
use mathlib.Core.List.{List}
use mathlib.Core.Path.{ap, ◌∙◌}
use lib.ListN.{length, take}
use borrow.Rule.Slice.PartMut.{put_mid}
use Rattle.definition.specs.Block.{stream_of}
use Rattle.definition.specs.Convert.{forward, to_edition2}
use Rattle.definition.specs.Reading.{reading}
use Rattle.definition.specs.Sheet.{edition1}
use Rattle.reading.specs.Passed.{words_there}
use Rattle.convert.proofs.Begun.{begun_is, begun_there, forward_begins}
use Rattle.convert.specs.Stages.{ready, refused_is, written_is}
use Rattle.convert.proofs.Lent.{from_six}
use Rattle.convert.proofs.forward.Goals as goal

pub returns-in_default : goal.returns-in_default
unfolding to_edition2
returns-in_default c =
    let a = c.args in
    let f = a.file.now in
    refused_is (reading edition1 f) (forward (stream_of f)) a.output.now c.forward_tests-tests.ensures c.in_default.is

pub write-requires : goal.write-requires
write-requires c =
    let a = c.args in
    let f = a.file.now in
    let w = a.words.now in
    let n = 127 * (length f / 512) in
    let back = c.forward_tests-tests.new.words in
    let ok = ready (reading edition1 f) (forward (stream_of f)) a.output.now c.forward_tests-tests.ensures c.in-Done.is in
    let st = ap (λ (l : List _). take n l) (from_six w back (omega (arith, c.requires.1))) ∙ ok.stream in
    let all = forward_begins (put_mid 6 (length w - 6) w back) (stream_of f) n st (words_there edition1 f ok.passed) c.spread_sheet.ensures in
    (begun_there (forward (stream_of f)) _ all ok.words, ok.size)

pub returns : goal.returns
unfolding to_edition2
returns c =
    let a = c.args in
    let f = a.file.now in
    let w = a.words.now in
    let n = 127 * (length f / 512) in
    let back = c.forward_tests-tests.new.words in
    let ok = ready (reading edition1 f) (forward (stream_of f)) a.output.now c.forward_tests-tests.ensures c.in-Done.is in
    let st = ap (λ (l : List _). take n l) (from_six w back (omega (arith, c.requires.1))) ∙ ok.stream in
    let all = forward_begins (put_mid 6 (length w - 6) w back) (stream_of f) n st (words_there edition1 f ok.passed) c.spread_sheet.ensures in
    written_is ok (begun_is (forward (stream_of f)) _ all ok.words) c.write.ensures.result_value c.write.ensures.output_after
