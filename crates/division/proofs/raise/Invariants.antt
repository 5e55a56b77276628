use Rattle.definition.specs.Field.{field_of}
use Rattle.division.proofs.Dividing.{Raised}
use Rattle.division.proofs.raise.Given as goal

abbrev pub invariant-loop-w_i : goal.invariant-loop-w_i
invariant-loop-w_i l = Raised (field_of l.field) l.d l.initial.w l.w l.below l.w_i-index
