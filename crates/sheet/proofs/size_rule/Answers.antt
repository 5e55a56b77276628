use native.Mathlib.Omega.{arith}
use Rattle.layouts.specs.SheetRules.{between_true}
use Rattle.definition.specs.Sheet.{size_rule}
use Rattle.sheet.proofs.RuleLaws.{failed, held, up_to}
use mathlib.Core.Path.{ap}
use Rattle.std.specs.Prelude.{not}
use Rattle.sheet.proofs.size_rule.Goals as goal

pub returns-then-not-is_power : goal.returns-then-not-is_power
unfolding size_rule
returns-then-not-is_power c = simp (failed c.is_power.ensures (ap not c.if-not-is_power.true))

pub returns-then-not-between : goal.returns-then-not-between
unfolding size_rule
returns-then-not-between c =
    simp (held c.is_power.ensures (ap not c.if-not-is_power.false), failed (up_to _ c.between.ensures c.largest_size.ensures) (ap not c.if-not-between.true))

pub nonzero_rem-result : goal.nonzero_rem-result
nonzero_rem-result c =
    omega (arith, between_true 4 _ _ (held c.between.ensures (ap not c.if-not-between.false)))

pub returns : goal.returns
unfolding size_rule
returns c =
    simp (
      c.group_size.ensures,
      held c.is_power.ensures (ap not c.if-not-is_power.false),
      held (up_to _ c.between.ensures c.largest_size.ensures) (ap not c.if-not-between.false),
    )
