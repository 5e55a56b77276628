use Rattle.sums.proofs.Halves.{Summed}
use Rattle.sums.proofs.sum.Given as goal

abbrev pub invariant-loop-i : goal.invariant-loop-i
invariant-loop-i l = Summed l.a l.b l.i l.high l.low
