use lib.ListN.{drop}
use Rattle.definition.specs.Field.{field_of}
use Rattle.algebra.specs.PrimeField.{laws}
use Rattle.division.specs.LongDivision.{Dividing}
use Rattle.division.proofs.raise_each.Given as goal

abbrev pub invariant-loop-i : goal.invariant-loop-i
invariant-loop-i l = Dividing (field_of l.field) (laws l.field) (drop l.i l.xs) l.w
