use borrow.Author.Tests.{le-leb, lt-leb}
use Rattle.definition.specs.Sheet.{between}
use Rattle.sheet.proofs.between.Goals as goal

-- `sheet::between` meets its contract. The two comparisons, in the order of the definition. Assumes nothing.
pub returns-then-x-low : goal.returns-then-x-low
unfolding between
returns-then-x-low c = simp (lt-leb _ _ c.if-x-low.true)

pub returns : goal.returns
unfolding between
returns c = simp (le-leb _ _ c.if-x-low.false)
