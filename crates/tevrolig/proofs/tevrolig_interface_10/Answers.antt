use mathlib.Core.Path.{refl}
use Rattle.tevrolig.proofs.tevrolig_interface_10.Goals as goal

-- `tevrolig::tevrolig_interface_10` meets its contract. Assumes nothing.
pub returns : goal.returns
returns c = refl
