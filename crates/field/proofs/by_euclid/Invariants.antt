use Rattle.definition.specs.Field.{field_of}
use Rattle.algebra.specs.PrimeField.{laws}
use Rattle.field.proofs.Euclid.{Remainders}
use Rattle.field.proofs.by_euclid.Given as goal

abbrev pub invariant-loop-rest : goal.invariant-loop-rest
invariant-loop-rest l = Remainders (field_of l.field) (laws l.field) l.a l.before l.rest l.s l.t

abbrev pub decreases-loop-rest : goal.decreases-loop-rest
decreases-loop-rest l = l.rest
