use native.Mathlib.Omega.{arith}
use mathlib.Core.Path.{◌∙◌}
use Rattle.sheet_change.specs.Laid.{copied, cut_laid}
use Rattle.sheet_change.proofs.cut_sheet.Goals as goal

pub returns : goal.returns
returns c =
    let w = c.args.words.now in
    let once = c.copy_within.new.self in
    cut_laid w c.requires (c.copy_within.ensures.after ∙ copied w 6 12 6 (omega (arith, c.requires)))
    (c.copy_within-2.ensures.after ∙ copied once 0 6 6 (omega (arith, c.requires, c.copy_within.ensures.len)))
