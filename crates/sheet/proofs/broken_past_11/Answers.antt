use Rattle.outcome.specs.Answers.{at_place, nowhere}
use Rattle.outcome.specs.Meaning.{place_of}
use Rattle.sheet.proofs.FirstBroken.{after_folds, in_folds, other_number, right_number}
use Rattle.sheet.proofs.broken_past_11.Goals as goal

pub returns-in-Some : goal.returns-in-Some
unfolding place_of
returns-in-Some c = in_folds _ (at_place c.broken_folds-folds.ensures c.in-Some.is)

pub returns-then-w-ne2 : goal.returns-then-w-ne2
unfolding place_of
returns-then-w-ne2 c =
    after_folds _ (nowhere c.broken_folds-folds.ensures c.in_default.is) (other_number _ c.if-w-ne2.true)

pub returns : goal.returns
unfolding place_of
returns c =
    after_folds _ (nowhere c.broken_folds-folds.ensures c.in_default.is) (right_number _ c.if-w-ne2.false)
