use Rattle.draws.specs.OutCoin.{may_be, may_not}
use Rattle.draws.proofs.allowed.Goals as goal

-- `draws::allowed` meets its contract. Assumes nothing.
pub returns-then-x-before : goal.returns-then-x-before
returns-then-x-before c = let a = c.args in may_not a.pw.now a.scale a.before a.x c.if-x-before.true

pub returns : goal.returns
returns c = let a = c.args in may_be a.pw.now a.scale a.before a.x c.if-x-before.false c.inside.ensures
