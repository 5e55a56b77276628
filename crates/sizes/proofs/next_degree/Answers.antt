use native.Mathlib.Omega.{arith}
use Rattle.layouts.specs.SheetRules.{folding_small, long_enough}
use Rattle.edition.specs.Meaning.{edition_of}
use Rattle.sizes.proofs.DegreeLaws.{degree_moved, degree_past, fold_one_bit, folding, log_small}
use Rattle.sizes.proofs.next_degree.Goals as goal

pub log2-requires : goal.log2-requires
log2-requires c = fold_one_bit _ _ (folding c.requires.folds.0 c.if-w-i.false c.fold.ensures.0)

pub overflow_shr-result : goal.overflow_shr-result
overflow_shr-result c =
    omega (arith, log_small _ _ c.log2.ensures (folding_small _ _ (folding c.requires.folds.0 c.if-w-i.false c.fold.ensures.0)).0)

pub returns : goal.returns
returns c = degree_moved _ c.requires.e_in_bounds.1 c.requires.folds.1 c.fold.ensures.0 c.log2.ensures
