use Rattle.nearest_planes.proofs.Turns.{Placed}
use Rattle.nearest_planes.proofs.put.Given as goal

abbrev pub invariant-loop-i : goal.invariant-loop-i
invariant-loop-i l = Placed l.f l.initial.out l.out l.k l.i
