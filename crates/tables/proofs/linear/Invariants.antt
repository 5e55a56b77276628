use Rattle.definition.specs.Field.{field_of}
use Rattle.list_laws.specs.Filled.{Filled}
use Rattle.tables.specs.Halving.{point_at}
use Rattle.tables.proofs.linear.Given as goal

abbrev pub invariant-loop-j : goal.invariant-loop-j
invariant-loop-j l = Filled (λ i. (field_of l.field).◌⊕◌ l.a ((field_of l.field).◌⊗◌ (point_at l.pw l.at l.step i) l.b)) l.initial.out l.out l.j
