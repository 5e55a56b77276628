use native.Mathlib.Omega.{arith}
use Rattle.sheet.proofs.RuleLaws.{largest_of_one, largest_of_three}
use Rattle.sheet.proofs.largest_size.Goals as goal

-- `sheet::largest_size` meets its contract. Assumes nothing.
pub returns-then-field-eq3 : goal.returns-then-field-eq3
returns-then-field-eq3 c = largest_of_three c.args.field (omega arith)

pub returns : goal.returns
returns c = largest_of_one c.args.field (omega arith)
