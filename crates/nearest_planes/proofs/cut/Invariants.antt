use Prim.Native.Nat.{◌+◌, ◌*◌}
use lib.ListN.{get_or}
use Rattle.list_laws.specs.Filled.{Filled}
use Rattle.nearest_planes.proofs.cut.Given as goal

abbrev pub invariant-loop-i : goal.invariant-loop-i
invariant-loop-i l = Filled (λ j. get_or l.w (4 * j + l.k) 0) l.initial.out l.out l.i
