use mathlib.Core.Path.{refl}
use Rattle.tevrolig.proofs.tevrolig_power_turns_3.Goals as goal

pub returns : goal.returns
returns c = record { value = refl; out_after = c.power_turns-powered.ensures.power_value; turns_after = c.power_turns-powered.ensures.turns_value }
