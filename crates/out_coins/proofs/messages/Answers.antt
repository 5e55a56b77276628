use mathlib.Core.Path.{sym}
use Rattle.out_coins.specs.Kinds.{messages_in}
use Rattle.out_coins.proofs.messages.Goals as goal

-- `out_coins::messages`: by the cases of `messages_in`.
pub returns-then-alone : goal.returns-then-alone
unfolding messages_in
returns-then-alone c = sym (rw c.if-alone.true)

pub returns : goal.returns
unfolding messages_in
returns c = sym (rw c.if-alone.false)
