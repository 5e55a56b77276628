use Prim.Native.Nat.{◌+◌, ◌≤◌}
use native.Mathlib.Nat.{mul-le-mul}
use native.Mathlib.Omega.{arith}
use lib.ListN.{get_or}
use Rattle.layouts.specs.SheetRules.{folding_small}
use Rattle.definition.specs.Sheet.{fold_rule}
use Rattle.sizes.proofs.DegreeLaws.{fold_one_bit, log_small}
use Rattle.sheet.proofs.RuleLaws.{degree_one_bit, rounds_by_logs, rounds_in_two, too_many_rounds}
use Rattle.sheet.proofs.rounds_rule.Goals as goal

pub returns-then-m-gt5 : goal.returns-then-m-gt5
returns-then-m-gt5 c = too_many_rounds _ _ c.if-m-gt5.true

pub log2-requires : goal.log2-requires
unfolding fold_rule
log2-requires c = fold_one_bit _ _ c.requires.1.1

pub overflow_mul-result : goal.overflow_mul-result
unfolding fold_rule
overflow_mul-result c =
    let m : get_or c.args.w.now 4 0 + 1 ≤ 6 = omega (arith, c.if-m-gt5.false) in
    omega (arith, mul-le-mul (log_small _ _ c.log2.ensures (folding_small _ _ c.requires.1.1).0) m)

pub log2-requires-in-One : goal.log2-requires-in-One
log2-requires-in-One c = degree_one_bit _ c.requires.1.0

pub returns-in-One : goal.returns-in-One
returns-in-One c =
    rounds_by_logs _ _ _ _ c.in-One.is c.if-m-gt5.false c.log2.ensures c.log2-in-One.ensures

pub returns-in-Two : goal.returns-in-Two
returns-in-Two c = rounds_in_two _ _ c.in-Two.is c.if-m-gt5.false
