use Rattle.elements.proofs.Cases.{count_one}
use Rattle.element_sums.proofs.Cases.{shorter_three, shorter_one, sum_three, sum_one}
use native.Mathlib.Omega.{arith}
use Rattle.element_sums.proofs.sum.Goals as goal

-- `element_sums::sum` meets its contract. Assumes nothing.
pub sum_four-requires : goal.sum_four-requires
sum_four-requires c =
    shorter_three c.args.field c.args.a.now c.args.b.now (omega arith) c.requires.0

pub returns-then-field-eq3 : goal.returns-then-field-eq3
returns-then-field-eq3 c =
    let a = c.args in
    sum_three a.field a.a.now a.b.now c.sum_four.result (omega arith) c.sum_four.ensures

pub sum-requires : goal.sum-requires
sum-requires c =
    (shorter_one c.args.field c.args.a.now c.args.b.now (omega arith) c.requires.0, omega (arith, count_one c.args.field c.args.a.now (omega arith)))

pub returns : goal.returns
returns c =
    let a = c.args in
    sum_one a.field a.a.now a.b.now c.number.result (omega arith) c.number.ensures.a_value c.sum.ensures
