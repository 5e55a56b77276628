use mathlib.Core.Path.{refl}
use Rattle.device_definition.specs.Device.{ended}
use Rattle.registers.specs.Meaning.{device_of, phase_of}
use Rattle.registers.proofs.ended.Goals as goal

pub returns : goal.returns
unfolding ended device_of phase_of
returns c = refl
