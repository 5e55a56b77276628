use native.Mathlib.Omega.{arith}
use mathlib.Core.Path.{◌∙◌}
use lib.ListN.{length-set}
use Rattle.sheet_change.specs.Laid.{copied, spread_laid}
use Rattle.sheet_change.proofs.spread_sheet.Goals as goal

pub shape_of-words : goal.shape_of-words
shape_of-words c = simp length-set (omega (arith, c.put_later_folds.auto.words, c.copy_within.ensures.len))

pub returns : goal.returns
returns c =
    spread_laid c.args.words.now c.requires (c.copy_within.ensures.after ∙ copied c.args.words.now 6 0 12 (omega (arith, c.requires))) c.put_later_folds.ensures
