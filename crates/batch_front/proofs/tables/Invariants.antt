use Rattle.batch_front.proofs.OneByOne.{Written}
use Rattle.batch_front.proofs.tables.Given as goal

abbrev pub invariant-loop-m : goal.invariant-loop-m
invariant-loop-m l = Written l.w l.bounds l.f l.size l.m l.at l.out
