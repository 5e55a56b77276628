use mathlib.Core.Path.{◌∙◌}
use Rattle.definition.specs.Sheet.{degree_rule}
use Rattle.sheet.proofs.RuleLaws.{failed, held}
use mathlib.Core.Path.{ap}
use Rattle.std.specs.Prelude.{not}
use Rattle.sheet.proofs.degree_rule.Goals as goal

pub returns-then-not-is_power : goal.returns-then-not-is_power
unfolding degree_rule
returns-then-not-is_power c = simp (failed c.is_power.ensures (ap not c.if-not-is_power.true))

pub returns : goal.returns
unfolding degree_rule
returns c = c.between.ensures ∙ simp (held c.is_power.ensures (ap not c.if-not-is_power.false))
