use Rattle.registers.specs.Meaning.{device_of}
use Rattle.outcome.specs.Meaning.{outcome_of}
use lib.ListN.{length}
use borrow.Author.Tests.{eq-eqb, ne_eqb}
use Rattle.device_definition.specs.Device.{buffer_test, write_tests}
use Rattle.definition.specs.Verdict.{refuse_if, ◌then◌}
use Rattle.registers.proofs.write_tests.Goals as goal

pub returns-then-buffer-ne-BUFFER : goal.returns-then-buffer-ne-BUFFER
unfolding outcome_of device_of write_tests buffer_test refuse_if ◌then◌
returns-then-buffer-ne-BUFFER c =
    rw (ne_eqb (length c.args.buffer.now) 65536 c.if-buffer-ne-BUFFER.true)

pub returns : goal.returns
unfolding outcome_of device_of write_tests buffer_test refuse_if ◌then◌
returns c =
    rw (eq-eqb (length c.args.buffer.now) 65536 c.if-buffer-ne-BUFFER.false) c.busy_or_full.ensures
