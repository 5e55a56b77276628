use mathlib.Core.Path.{◌∙◌}
use Rattle.tree.specs.NodeLaws.{parent_even, parent_odd}
use Rattle.tree.proofs.parent.Goals as goal

-- src/lib.rt:101:1
pub returns-then-number-eq0 : goal.returns-then-number-eq0
returns-then-number-eq0 c = let a = c.args in c.node.ensures ∙ parent_even a.x.now a.number a.sibling.now c.if-number-eq0.true

-- src/lib.rt:101:1
pub returns-else-number-eq0 : goal.returns-else-number-eq0
returns-else-number-eq0 c = let a = c.args in c.node-else-number-eq0.ensures ∙ parent_odd a.x.now a.number a.sibling.now c.if-number-eq0.false
