use native.Mathlib.Omega.{arith}
use Rattle.definition.specs.Field.{field_of, prime_field}
use Rattle.fractions.proofs.Cases.{inside_three, inside_one, gathered_three, gathered_one}
use Rattle.fractions.proofs.gather.Goals as goal

-- `fractions::gather` meets its contract. Assumes nothing.
pub gather_over-requires : goal.gather_over-requires
gather_over-requires c =
    let a = c.args in
    inside_three a.field a.step a.j a.table.now a.values.now (omega arith) c.requires

pub gather_over-requires-else-field-eq3 : goal.gather_over-requires-else-field-eq3
gather_over-requires-else-field-eq3 c =
    let a = c.args in
    inside_one a.field a.step a.j a.table.now a.values.now (omega arith) c.requires

pub returns-then-field-eq3 : goal.returns-then-field-eq3
returns-then-field-eq3 c =
    let a = c.args in
    let r = c.gather_over in
    gathered_three a.field a.step a.j a.table.now a.values.now r.new.values (omega arith) r.ensures

pub returns-else-field-eq3 : goal.returns-else-field-eq3
unfolding field_of prime_field
returns-else-field-eq3 c =
    let a = c.args in
    let r = c.gather_over-else-field-eq3 in
    gathered_one a.field a.step a.j a.table.now a.values.now r.new.values (omega arith) r.ensures
