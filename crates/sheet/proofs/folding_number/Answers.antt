use Rattle.definition.specs.Sheet.{folding_number}
use Rattle.sheet.proofs.RuleLaws.{failed, held}
use mathlib.Core.Path.{ap}
use Rattle.std.specs.Prelude.{not}
use Rattle.sheet.proofs.folding_number.Goals as goal

pub returns-then-not-is_power : goal.returns-then-not-is_power
unfolding folding_number
returns-then-not-is_power c = simp (failed c.is_power.ensures (ap not c.if-not-is_power.true))

pub returns-then-not-between : goal.returns-then-not-between
unfolding folding_number
returns-then-not-between c = simp (held c.is_power.ensures (ap not c.if-not-is_power.false), failed c.between.ensures (ap not c.if-not-between.true))

pub returns : goal.returns
unfolding folding_number
returns c = simp (held c.is_power.ensures (ap not c.if-not-is_power.false), held c.between.ensures (ap not c.if-not-between.false))
