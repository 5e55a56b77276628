use mathlib.Core.Path.{refl}
use Rattle.device_definition.specs.Device.{enabled}
use Rattle.registers.specs.Meaning.{device_of, phase_of}
use Rattle.registers.proofs.enabled.Goals as goal

pub returns : goal.returns
unfolding enabled device_of phase_of
returns c = refl
