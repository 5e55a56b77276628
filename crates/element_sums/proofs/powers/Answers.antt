use Rattle.element_sums.proofs.Cases.{some_three, some_one, powers_three, powers_one}
use native.Mathlib.Omega.{arith}
use Rattle.element_sums.proofs.powers.Goals as goal

-- `element_sums::powers` meets its contract. Assumes nothing.
pub powers_four-requires : goal.powers_four-requires
powers_four-requires c =
    some_three c.args.field c.args.x c.args.out.now c.args.out.now (omega arith) c.requires

pub powers-requires : goal.powers-requires
powers-requires c =
    some_one c.args.field c.args.x c.args.out.now c.args.out.now (omega arith) c.requires

pub returns-then-field-eq3 : goal.returns-then-field-eq3
returns-then-field-eq3 c =
    let a = c.args in
    powers_three a.field a.x a.out.now _ (omega arith) c.powers_four.ensures

pub returns-else-field-eq3 : goal.returns-else-field-eq3
returns-else-field-eq3 c =
    let a = c.args in
    powers_one a.field a.x a.out.now _ (omega arith) c.powers.ensures
