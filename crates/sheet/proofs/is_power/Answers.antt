use mathlib.Core.Path.{sym}
use Rattle.sizes.specs.OneBit.{power_of_two_large, power_of_two_ones}
use Rattle.sheet.proofs.is_power.Goals as goal

-- `sheet::is_power` meets its contract. Up to 4096 the ones count decides, and above that nothing is a power of the definition. Assumes nothing.
pub returns-then-x-gt4096 : goal.returns-then-x-gt4096
returns-then-x-gt4096 c = sym (power_of_two_large _ c.if-x-gt4096.true)

pub returns : goal.returns
returns c = power_of_two_ones _ c.if-x-gt4096.false
