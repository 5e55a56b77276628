use native.Mathlib.Omega.{arith}
use Rattle.root_values.proofs.Cases.{asked_one, asked_three, divided_one, divided_three}
use Rattle.root_values.proofs.divide.Goals as goal

-- `root_values::divide` meets its contract. Assumes nothing.
pub divide_over-requires : goal.divide_over-requires
divide_over-requires c =
    let a = c.args in let both = asked_three a.field a.bottoms.now a.tops.now (omega (arith, c.if-field-eq3.true)) ((c.requires.tops_in_bounds, c.requires.divisible)) in record { tops_in_bounds = both.0; divisible = both.1 }

pub divide_over-requires-else-field-eq3 : goal.divide_over-requires-else-field-eq3
divide_over-requires-else-field-eq3 c =
    let a = c.args in let both = asked_one a.field a.bottoms.now a.tops.now c.if-field-eq3.false ((c.requires.tops_in_bounds, c.requires.divisible)) in record { tops_in_bounds = both.0; divisible = both.1 }

pub returns-then-field-eq3 : goal.returns-then-field-eq3
returns-then-field-eq3 c =
    let a = c.args in
    let d = c.divide_over in
    divided_three a.field a.bottoms.now a.tops.now d.new.tops (omega (arith, c.if-field-eq3.true)) d.ensures

pub returns-else-field-eq3 : goal.returns-else-field-eq3
returns-else-field-eq3 c =
    let a = c.args in
    let d = c.divide_over-else-field-eq3 in
    divided_one a.field a.bottoms.now a.tops.now d.new.tops c.if-field-eq3.false d.ensures
