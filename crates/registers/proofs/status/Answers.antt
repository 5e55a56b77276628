use Rattle.registers.specs.Meaning.{phase_of}
use Rattle.device_definition.specs.Device.{status_in}
use Rattle.registers.proofs.status.Goals as goal

pub returns-in-Idle : goal.returns-in-Idle
unfolding status_in phase_of
returns-in-Idle c = rw c.in-Idle.is

pub returns-in-Busy : goal.returns-in-Busy
unfolding status_in phase_of
returns-in-Busy c = rw c.in-Busy.is

pub returns-in-Done : goal.returns-in-Done
unfolding status_in phase_of
returns-in-Done c = rw c.in-Done.is
