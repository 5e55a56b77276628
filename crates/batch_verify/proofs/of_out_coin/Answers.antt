use mathlib.Core.Bool.{Bool, ◌||◌}
use mathlib.Core.Path.{sym, ap}
use lib.Dec.{eqb}
use borrow.Author.Tests.{eq-eqb, ne_eqb}
use Rattle.batch_verify.proofs.of_out_coin.Goals as goal

-- `batch_verify::of_out_coin` meets its contract. Assumes nothing.
pub returns-then-number-eq7 : goal.returns-then-number-eq7
returns-then-number-eq7 c = let n = c.args.number in sym (ap (λ (b : Bool). b || eqb n 14) (eq-eqb n 7 c.if-number-eq7.true))

pub returns : goal.returns
returns c = let n = c.args.number in sym (ap (λ (b : Bool). b || eqb n 14) (ne_eqb n 7 c.if-number-eq7.false))
