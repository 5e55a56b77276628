use Rattle.definition.specs.Field.{field_of}
use Rattle.tables.specs.Halving.{Joined}
use Rattle.tables.proofs.join.Given as goal

abbrev pub invariant-loop-j : goal.invariant-loop-j
invariant-loop-j l = Joined (field_of l.field) l.pw l.at l.step l.h l.j l.initial.out l.out
