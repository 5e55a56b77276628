use native.Mathlib.Omega.{arith}
use Rattle.layouts.specs.SheetRules.{between_true}
use Rattle.sheet.proofs.RuleLaws.{failed, held, past_last, out_of_range_lem, at_last, before_last, out_coins_small}
use mathlib.Core.Path.{ap}
use Rattle.std.specs.Prelude.{not}
use Rattle.sheet.proofs.repetitions_rule.Goals as goal

pub overflow_cast-m : goal.overflow_cast-m
overflow_cast-m c = omega (arith, c.shared_slice_known-3-1.given 4)

pub returns-then-m-i : goal.returns-then-m-i
returns-then-m-i c = past_last _ _ _ c.if-m-i.true

pub returns-then-not-between : goal.returns-then-not-between
returns-then-not-between c = out_of_range_lem _ _ _ c.if-m-i.false (failed c.between.ensures (ap not c.if-not-between.true))

pub returns-then-i-m : goal.returns-then-i-m
returns-then-i-m c = at_last _ _ _ c.if-i-m.true (held c.between.ensures (ap not c.if-not-between.false))

pub overflow_add-result : goal.overflow_add-result
overflow_add-result c =
    omega (arith, between_true 1 48 _ (held c.between.ensures (ap not c.if-not-between.false)), out_coins_small _ c.requires.shape.0.out_coins)

pub returns : goal.returns
returns c =
    before_last _ _ _ _ c.if-m-i.false c.if-i-m.false (held c.between.ensures (ap not c.if-not-between.false)) c.requires.shape.1
