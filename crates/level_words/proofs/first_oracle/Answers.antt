use native.Mathlib.Omega.{arith}
use mathlib.Core.Path.{◌∙◌}
use Rattle.level_words.proofs.Made.{first_way}
use Rattle.level_words.proofs.first_oracle.Goals as goal

pub nonzero_div-result : goal.nonzero_div-result
nonzero_div-result c = omega (arith, c.fold.ensures.0, c.requires.0.folds 0 (omega arith), c.requires.1.1)

pub returns : goal.returns
returns c = first_way _ c.requires.0.size (c.fold.ensures.0 ∙ c.requires.0.folds 0 (omega arith))
