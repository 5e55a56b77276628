use native.Mathlib.Omega.{arith}
use Rattle.batch_sheet.proofs.RuleLaws.{most_of_one, most_of_three}
use Rattle.batch_sheet.proofs.most_entries.Goals as goal

-- `batch_sheet::most_entries` meets its contract. Assumes nothing.
pub returns-then-field-eq3 : goal.returns-then-field-eq3
returns-then-field-eq3 c = most_of_three c.args.field (omega arith)

pub returns : goal.returns
returns c = most_of_one c.args.field (omega arith)
