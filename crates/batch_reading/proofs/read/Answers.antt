use Rattle.batch_definition.specs.Batch.{batch_reading}
use Rattle.outcome.specs.Answers.{at_place, nowhere}
use Rattle.reading.specs.FirstTests.{checks_pass, empty, loads_stream, no_blocks, wrong_check}
use Rattle.batch_reading.proofs.StageLaws.{read_refused, read_stream}
use Rattle.batch_reading.proofs.read.Goals as goal

-- `batch_reading::read` meets its contract. Assumes nothing.
pub returns-then-file-eq0 : goal.returns-then-file-eq0
unfolding batch_reading
returns-then-file-eq0 c = read_refused c.args.file.now _ (empty c.args.file.now _ c.if-file-eq0.true)

pub returns-then-file-ne0 : goal.returns-then-file-ne0
unfolding batch_reading
returns-then-file-ne0 c = read_refused c.args.file.now _ (no_blocks c.args.file.now _ c.if-file-eq0.false c.if-file-ne0.true)

pub returns-in-Some : goal.returns-in-Some
unfolding batch_reading
returns-in-Some c = read_refused c.args.file.now _ (wrong_check c.args.file.now _ c.if-file-eq0.false c.if-file-ne0.false c.in-Some.place (at_place c.load-check.ensures.checked c.in-Some.is))

pub returns : goal.returns
unfolding batch_reading
returns c =
    let f = c.args.file.now in
    let right = c.in_default.is in
    let read = c.after_checks.ensures _ (loads_stream f c.load-check.ensures right) in
    read_stream f _ read (checks_pass f _ c.if-file-eq0.false c.if-file-ne0.false (nowhere c.load-check.ensures.checked right) read.outcome)
