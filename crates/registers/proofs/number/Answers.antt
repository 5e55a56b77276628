use Rattle.registers.specs.Meaning.{phase_of}
use Rattle.device_definition.specs.Device.{fault_number}
use Rattle.outcome.specs.Meaning.{outcome_of}
use Rattle.registers.proofs.number.Goals as goal

pub returns-in-Idle : goal.returns-in-Idle
unfolding fault_number phase_of outcome_of
returns-in-Idle c = rw c.in-Idle.is

pub returns-in-Busy : goal.returns-in-Busy
unfolding fault_number phase_of outcome_of
returns-in-Busy c = rw c.in-Busy.is

pub returns-in-Accepted : goal.returns-in-Accepted
unfolding fault_number phase_of outcome_of
returns-in-Accepted c =
    rw (c.in-Done.is, c.in-Accepted.is)

pub returns-in-Refused : goal.returns-in-Refused
unfolding fault_number phase_of outcome_of
returns-in-Refused c =
    rw (c.in-Done.is, c.in-Refused.is)
