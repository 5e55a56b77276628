use native.Mathlib.Omega.{arith}
use Rattle.sheet_change.specs.Laid.{later_unused, later_used}
use Rattle.sheet_change.proofs.later_fold.Goals as goal

-- `sheet_change::later_fold` meets its contract. Assumes nothing.
pub returns-then-j-rounds : goal.returns-then-j-rounds
returns-then-j-rounds c = later_used c.args.rounds c.args.k c.args.j c.requires (omega (arith, c.if-j-rounds.true))

pub returns-else-j-rounds : goal.returns-else-j-rounds
returns-else-j-rounds c = later_unused c.args.rounds c.args.k c.args.j c.requires (omega (arith, c.if-j-rounds.false))
