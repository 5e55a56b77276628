use mathlib.Core.Path.{refl}
use Rattle.definition.specs.Load.{step}
use Rattle.generator.proofs.Generator.step.Goals as goal

-- `Generator::step` meets its contract: a shift left of a u32 keeps 32 bits, and `^` is the library's bit_xor. Assumes nothing.
pub returns : goal.returns
unfolding step
returns c = refl
