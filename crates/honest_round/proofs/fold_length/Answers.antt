use Prim.Native.Nat.{ℕ, ◌/◌}
use native.Mathlib.Omega.{arith}
use mathlib.Core.Path.{ap}
use Rattle.honest_words.specs.Sizes.{numbers}
use Rattle.honest_round.proofs.fold_length.Goals as goal

pub nonzero_div-result : goal.nonzero_div-result
nonzero_div-result c = omega (arith, c.folding_number.ensures, (numbers c.requires).least_fold)

pub returns : goal.returns
returns c = ap (λ (k : ℕ). c.args.n / k) c.folding_number.ensures
