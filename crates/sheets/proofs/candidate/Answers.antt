use Rattle.sheets.proofs.RuleLaws.{small_candidate, large_candidate}
use Rattle.sheets.proofs.candidate.Goals as goal

-- `sheets::candidate` meets its contract. Assumes nothing.
pub returns-then-i-lt49 : goal.returns-then-i-lt49
returns-then-i-lt49 c = small_candidate c.args.i c.if-i-lt49.true

pub returns-else-i-lt49 : goal.returns-else-i-lt49
returns-else-i-lt49 c = large_candidate c.args.i c.if-i-lt49.false c.requires
