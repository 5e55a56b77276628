use native.Mathlib.Omega.{arith}
use Rattle.batch_sheet.proofs.SizeLaws.{sum_end, sum_next}
use Rattle.batch_sheet.proofs.sum.Goals as goal

pub overflow_add-sum : goal.overflow_add-sum
overflow_add-sum c =
    let l = c.loop-m in
    omega (arith, c.type_inv.bounds l.m, l.invariant.1, c.requires)

pub loop-m-preserved : goal.loop-m-preserved
loop-m-preserved c =
    let l = c.loop-m in
    (omega (arith, sum_next c.args.bounds.now l.m (omega arith), l.invariant.0), omega (arith, c.type_inv.bounds l.m, l.invariant.1))

pub returns : goal.returns
returns c =
    let l = c.loop-m in
    (omega (arith, l.invariant.0, sum_end c.args.bounds.now l.m (omega arith)), omega (arith, l.invariant.1))
