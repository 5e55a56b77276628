use native.Mathlib.Omega.{arith}
use Rattle.sheet.proofs.FoldLaws.{fold_past, no_folding, product_rule}
use Rattle.sheet.proofs.RuleLaws.{failed, held}
use mathlib.Core.Path.{ap}
use Rattle.std.specs.Prelude.{not}
use Rattle.sheet.proofs.later_fold_rule.Goals as goal

pub overflow_cast-w : goal.overflow_cast-w
overflow_cast-w c = omega (arith, c.shared_slice_known-3-1.given 4)

pub returns-then-w-i : goal.returns-then-w-i
returns-then-w-i c = fold_past _ _ c.if-w-i.true

pub returns-then-not-folding_number : goal.returns-then-not-folding_number
returns-then-not-folding_number c = no_folding _ _ c.if-w-i.false (failed c.folding_number.ensures (ap not c.if-not-folding_number.true))

pub returns : goal.returns
returns c =
    product_rule _ _ c.if-w-i.false c.requires.in_bounds.1.0 c.requires.in_bounds.1.1 c.requires.folds.0 c.requires.folds.1 (held c.folding_number.ensures (ap not c.if-not-folding_number.false))
