use mathlib.Core.Path.{refl}
use Rattle.tevrolig.proofs.tevrolig_sum_3.Goals as goal

pub returns : goal.returns
returns c = record { value = refl; out_after = c.sum.ensures }
