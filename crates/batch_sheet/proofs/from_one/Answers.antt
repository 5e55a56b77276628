use native.Mathlib.Omega.{arith}
use Rattle.batch_sheet.proofs.RuleLaws.{below_one, from_one_on}
use Rattle.batch_sheet.proofs.from_one.Goals as goal

-- `batch_sheet::from_one` meets its contract. The two comparisons, in the order of the definition. Assumes nothing.
pub returns-then-x-lt1 : goal.returns-then-x-lt1
returns-then-x-lt1 c = let a = c.args in below_one a.most a.x (omega arith)

pub returns : goal.returns
returns c = let a = c.args in from_one_on a.most a.x (omega arith)
