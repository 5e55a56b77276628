use Prim.Native.Nat.{◌≤◌, ◌-◌}
use mathlib.Core.Path.{◌≡◌}
use lib.Dec.{leb}
use lib.ListN.{length}
use Rattle.definition.specs.Field.{prime_of}
use Rattle.ranges.proofs.FirstFrom.{first_from}
use Rattle.ranges.proofs.coefficient_out_of_range.Given as goal

abbrev pub invariant-loop-i : goal.invariant-loop-i
invariant-loop-i l = first_from (leb (prime_of l.field)) l.f l.i ≡ first_from (leb (prime_of l.field)) l.f 0
