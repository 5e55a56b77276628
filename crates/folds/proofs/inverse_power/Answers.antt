use mathlib.Core.Path.{refl}
use native.Mathlib.Nat.{mod-lt}
use native.Mathlib.Omega.{arith}
use lib.ListN.{length}
use Rattle.folds.specs.PointsIn.{inverse_power_in}
use Rattle.folds.proofs.inverse_power.Goals as goal

pub overflow_sub-result-2 : goal.overflow_sub-result-2
overflow_sub-result-2 c = omega (arith, mod-lt c.args.e {m = length c.args.pw.now} (omega arith))

pub returns : goal.returns
unfolding inverse_power_in
returns c = refl
