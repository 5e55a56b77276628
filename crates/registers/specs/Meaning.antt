-- What the struct and its phase mean: the definition's device, every field.
use Rattle.device_definition.specs.Device as definition
use Rattle.outcome.specs.Meaning.{outcome_of}
use Rattle.registers.specs.declared.Phase.{Phase}
use Rattle.registers.specs.declared.Phase.TheVariants.{Idle, Busy, Done}
use Rattle.registers.specs.declared.Device.{Device}

unfoldable pub phase_of : Phase → definition.Phase
phase_of Idle = definition.idle
phase_of Busy = definition.busy
phase_of (Done o) = definition.done (outcome_of o)

unfoldable pub device_of : Device → definition.Device
device_of d = record { phase = phase_of d.phase; enable = d.enable; flag = d.flag; taken = d.taken; treated = d.treated; folds = d.folds }
