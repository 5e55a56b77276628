use Rattle.registers.specs.Meaning.{device_of}
use Rattle.device_definition.specs.Device.{line}
use Rattle.registers.proofs.line.Goals as goal

pub returns-then-d : goal.returns-then-d
unfolding line device_of
returns-then-d c = rw c.if-d.true

pub returns : goal.returns
unfolding line device_of
returns c = rw c.if-d.false
