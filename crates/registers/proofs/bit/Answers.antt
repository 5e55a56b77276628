use Rattle.device_definition.specs.Device.{bit}
use Rattle.registers.proofs.bit.Goals as goal

pub returns-then-b : goal.returns-then-b
unfolding bit
returns-then-b c = rw c.if-b.true

pub returns : goal.returns
unfolding bit
returns c = rw c.if-b.false
