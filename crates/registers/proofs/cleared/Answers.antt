use mathlib.Core.Path.{refl}
use Rattle.definition.specs.Field.{word_count}
use Rattle.device_definition.specs.Device.{cleared, no_folds}
use Rattle.registers.specs.Meaning.{device_of, phase_of}
use Rattle.registers.proofs.cleared.Goals as goal

pub returns : goal.returns
unfolding cleared no_folds word_count device_of phase_of
returns c = refl
