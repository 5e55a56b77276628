use Rattle.list_laws.specs.Filled.{Filled}
use Rattle.differences.proofs.fill.Given as goal

abbrev pub invariant-loop-x : goal.invariant-loop-x
invariant-loop-x l = Filled (λ _. l.c) l.initial.out l.out l.x-index
