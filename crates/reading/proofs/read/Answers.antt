use Rattle.edition.specs.Meaning.{edition_of}
use Rattle.outcome.specs.Answers.{at_place, nowhere}
use Rattle.definition.specs.Reading.{reading}
use Rattle.reading.specs.FirstTests.{empty, no_blocks, wrong_check, checks_pass, loads_stream}
use Rattle.reading.proofs.StageLaws.{read_refused, read_loaded}
use Rattle.reading.proofs.read.Goals as goal

-- `reading::read` meets its contract. Assumes nothing.
-- src/lib.rt:56:9
pub returns-then-file-eq0 : goal.returns-then-file-eq0
unfolding reading
returns-then-file-eq0 c =
    let a = c.args in
    read_refused (edition_of a.e) a.file.now _ (empty a.file.now _ c.if-file-eq0.true)

-- src/lib.rt:59:9
pub returns-then-file-ne0 : goal.returns-then-file-ne0
unfolding reading
returns-then-file-ne0 c =
    let a = c.args in
    let f = a.file.now in
    let ed = edition_of a.e in
    read_refused ed f _ (no_blocks f _ c.if-file-eq0.false c.if-file-ne0.true)

-- src/lib.rt:63:9
pub returns-in-Some : goal.returns-in-Some
unfolding reading
returns-in-Some c =
    let a = c.args in
    let f = a.file.now in
    let ed = edition_of a.e in
    read_refused ed f _ (wrong_check f _ c.if-file-eq0.false c.if-file-ne0.false c.in-Some.place (at_place c.load-check.ensures.checked c.in-Some.is))

-- src/lib.rt:51:1
pub returns : goal.returns
unfolding reading
returns c =
    let a = c.args in
    let f = a.file.now in
    let ed = edition_of a.e in
    let right = c.in_default.is in
    read_loaded ed f c.load-check.ensures right
    (checks_pass f _ c.if-file-eq0.false c.if-file-ne0.false (nowhere c.load-check.ensures.checked right) (c.after_checks.ensures _ (loads_stream f c.load-check.ensures right)))
