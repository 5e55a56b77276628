use native.Mathlib.Omega.{arith}
use native.Mathlib.Nat.{one-mul}
use mathlib.Core.Path.{◌∙◌}
use Rattle.elements.proofs.Cases.{words_three, words_one}
use Rattle.elements.proofs.width.Goals as goal

-- `elements::width` meets its contract. Assumes nothing.
pub returns-then-field-eq3 : goal.returns-then-field-eq3
returns-then-field-eq3 c = ((λ n. words_three c.args.field n (omega arith)), (omega arith, omega arith))

pub returns : goal.returns
returns c = ((λ n. one-mul n ∙ words_one c.args.field n (omega arith)), (omega arith, omega arith))
