use Rattle.sums.proofs.PowerSteps.{Turning}
use Rattle.sums.proofs.powers_in.Given as goal

abbrev pub invariant-loop-x : goal.invariant-loop-x
invariant-loop-x l = Turning l.pw l.s l.out l.place l.x-index
