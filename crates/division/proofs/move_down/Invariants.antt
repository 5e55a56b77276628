use Prim.Native.Nat.{◌+◌}
use lib.ListN.{get_or}
use Rattle.list_laws.specs.Filled.{Filled}
use Rattle.division.proofs.move_down.Given as goal

abbrev pub invariant-loop-i : goal.invariant-loop-i
invariant-loop-i l = Filled (λ m. get_or l.initial.f (l.e + m) 0) l.initial.f l.f l.i
