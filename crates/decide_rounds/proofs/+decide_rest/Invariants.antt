use Prim.Native.Nat.{◌-◌}
use Rattle.decide_rounds.proofs.+decide_rest.Given as goal

abbrev pub decreases-decide_rest : goal.decreases-decide_rest
decreases-decide_rest l = 6 - l.state.level
