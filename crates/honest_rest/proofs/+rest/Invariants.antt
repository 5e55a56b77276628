use Prim.Native.Nat.{◌-◌}
use Rattle.honest_rest.proofs.+rest.Given as goal

abbrev pub decreases-rest : goal.decreases-rest
decreases-rest l = 6 - l.level
