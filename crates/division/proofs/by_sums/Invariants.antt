use Prim.Native.Nat.{◌≤◌}
use lib.ListN.{length}
use Rattle.definition.specs.Field.{field_of}
use Rattle.algebra.specs.PrimeField.{laws}
use Rattle.division.proofs.Dividing.{Summing}
use Rattle.division.proofs.by_sums.Given as goal

abbrev pub invariant-loop-i : goal.invariant-loop-i
invariant-loop-i l = (length l.w ≤ l.i) × Summing (field_of l.field) (laws l.field) l.w l.initial.f (length l.initial.f) l.f l.i
