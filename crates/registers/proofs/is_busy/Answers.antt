use Rattle.registers.specs.Meaning.{phase_of}
use Rattle.device_definition.specs.Device.{is_busy}
use Rattle.registers.proofs.is_busy.Goals as goal

pub returns-in-Idle : goal.returns-in-Idle
unfolding is_busy phase_of
returns-in-Idle c = rw c.in-Idle.is

pub returns-in-Busy : goal.returns-in-Busy
unfolding is_busy phase_of
returns-in-Busy c = rw c.in-Busy.is

pub returns-in-Done : goal.returns-in-Done
unfolding is_busy phase_of
returns-in-Done c = rw c.in-Done.is
