use native.Mathlib.Omega.{arith}
use mathlib.Core.Path.{ap, ◌∙◌}
use lib.ListN.{get_or}
use Rattle.definition.specs.Field.{spelling_of, word_count}
use Rattle.definition.specs.Sheet.{edition1, sheet_of}
use Rattle.batches.specs.BatchRules.{tables_few}
use Rattle.batch_sheet.proofs.SizeLaws.{coefficients_small, sum_small}
use Rattle.batch_sheet.proofs.coefficients_due.Goals as goal

-- `batch_sheet::coefficients_due` meets its contract. Assumes nothing.
pub sum-sum-requires : goal.sum-sum-requires
sum-sum-requires c = omega (arith, tables_few (sheet_of edition1 c.args.w.now) _ c.args.bounds.now c.requires.bounds_value)

pub words-requires : goal.words-requires
words-requires c =
    omega (arith, sum_small c.args.w.now c.args.bounds.now c.requires.in_bounds.1 c.requires.bounds_value, c.sum-sum.ensures.0)

pub returns : goal.returns
unfolding sheet_of
returns c =
    let e = c.words.ensures.0 ∙ ap (word_count (spelling_of (get_or c.args.w.now 0 0))) c.sum-sum.ensures.0 in
    (e, omega (arith, e, coefficients_small c.args.w.now c.args.bounds.now c.requires.in_bounds.1 c.requires.bounds_value))
