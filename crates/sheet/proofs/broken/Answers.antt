use Rattle.layouts.specs.SheetRules.{long_enough}
use Rattle.edition.specs.Meaning.{edition_of}
use Rattle.outcome.specs.Answers.{at_place, nowhere}
use Rattle.outcome.specs.Meaning.{place_of}
use Rattle.sheet.proofs.FirstBroken.{in_front, in_last, in_later}
use Rattle.sheet.proofs.FoldLaws.{all_folds, shape}
use Rattle.sheet.proofs.broken.Goals as goal

-- `sheet::broken` meets its contract: part after part, in the order of the tests. Assumes nothing.
pub broken_front-front-requires : goal.broken_front-front-requires
broken_front-front-requires c = long_enough (edition_of c.args.e) c.args.w.now c.requires

pub returns-in-Some : goal.returns-in-Some
unfolding place_of
returns-in-Some c = in_front _ _ (at_place c.broken_front-front.ensures c.in-Some.is)

pub broken_later-later-requires : goal.broken_later-later-requires
broken_later-later-requires c =
    (c.requires, shape _ _ (nowhere c.broken_front-front.ensures c.in_default.is))

pub returns-in-Some-later : goal.returns-in-Some-later
unfolding place_of
returns-in-Some-later c =
    in_later _ _ (nowhere c.broken_front-front.ensures c.in_default.is) (at_place c.broken_later-later.ensures c.in-Some-later.is)

pub broken_repetitions-requires : goal.broken_repetitions-requires
broken_repetitions-requires c =
    let held = shape _ _ (nowhere c.broken_front-front.ensures c.in_default.is) in record { e_in_bounds = (c.requires, held); folds = all_folds held (nowhere c.broken_later-later.ensures c.in_default-later.is) }

pub returns : goal.returns
returns c =
    in_last _ _ (nowhere c.broken_front-front.ensures c.in_default.is) (nowhere c.broken_later-later.ensures c.in_default-later.is) c.broken_repetitions.ensures
