use mathlib.Core.Path.{sym}
use native.Mathlib.Nat.{mod-eq_of_lt}
use native.Mathlib.Omega.{arith}
use Rattle.sums.proofs.PowerSteps.{further_more}
use Rattle.sums.proofs.further.Goals as goal

pub returns-then-next-n : goal.returns-then-next-n
returns-then-next-n c = (sym (mod-eq_of_lt c.if-next-n.true), c.if-next-n.true)

pub returns : goal.returns
returns c =
    (further_more c.args.n c.args.place c.args.s c.requires.0 c.requires.1.0 c.if-next-n.false, omega (arith, c.requires.0, c.requires.1.0))
