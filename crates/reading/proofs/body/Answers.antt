use Rattle.edition.specs.Meaning.{edition_of}
use Rattle.outcome.specs.Meaning.{outcome_of}
use Rattle.outcome.specs.Answers.{at_place, nowhere}
use Rattle.reading.proofs.StageLaws.{range, fill_from, out_of_range_lem, not_filled, body_passes}
use Rattle.reading.proofs.body.Goals as goal

pub returns-in-Some : goal.returns-in-Some
unfolding outcome_of range
returns-in-Some c =
    out_of_range_lem (edition_of c.args.e) c.args.w.now c.in-Some.place (at_place c.out_of_range-range.ensures c.in-Some.is)

pub returns-in-Some-fill : goal.returns-in-Some-fill
unfolding outcome_of range
returns-in-Some-fill c =
    let w = c.args.w.now in
    let ed = edition_of c.args.e in
    not_filled ed w c.in-Some-fill.place (nowhere c.out_of_range-range.ensures c.in_default.is)
    (fill_from ed w c.requires.due_value.0 (at_place c.fill_not_zero-fill.ensures c.in-Some-fill.is))

pub returns : goal.returns
unfolding outcome_of range
returns c =
    let w = c.args.w.now in
    let ed = edition_of c.args.e in
    body_passes ed w (nowhere c.out_of_range-range.ensures c.in_default.is)
    (fill_from ed w c.requires.due_value.0 (nowhere c.fill_not_zero-fill.ensures c.in_default-fill.is))
