use native.Mathlib.Omega.{arith}
use mathlib.Core.Path.{◌∙◌, sym}
use Rattle.honest_words.specs.Sizes.{enough, numbers}
use Rattle.honest_round.proofs.folding_number.Goals as goal

-- `honest_round::folding_number` meets its contract: the edition's word of k_i is the sheet's. Assumes nothing.
pub fold-requires : goal.fold-requires
fold-requires c =
    (enough c.requires, omega (arith, c.requires.level, (numbers c.requires).most_rounds))

pub returns : goal.returns
returns c = c.fold.ensures.0 ∙ sym (numbers c.requires).fold
