use native.Mathlib.Omega.{arith}
use Rattle.definition.specs.Sheet.{edition1}
use Rattle.edition.specs.Meaning.{edition_of}
use Rattle.outcome.specs.Meaning.{outcome_of}
use Rattle.batch_reading.proofs.StageLaws.{accepted_higher, place_small, refused_higher}
use Rattle.ranges.specs.RoundsOfLayout.{long_enough}
use Rattle.batch_reading.proofs.plain_body.Goals as goal

-- `batch_reading::plain_body` meets its contract. Assumes nothing.
pub words_due-due-requires : goal.words_due-due-requires
unfolding edition_of
words_due-due-requires c = (long_enough edition1 c.args.plain.now c.requires.plain_in_bounds, c.requires.plain_value)

pub body-told-requires : goal.body-told-requires
unfolding edition_of
body-told-requires c =
    let due = c.words_due-due.ensures.0 in record { w_value = c.requires.plain_value; due_value = (due, omega (arith, due, c.requires.plain_in_bounds)) }

pub overflow_add-result : goal.overflow_add-result
unfolding edition_of
overflow_add-result c = omega (arith, place_small c.args.plain.now c.args.shift c.body-told.result c.body-told.ensures c.in-Refused.is, c.requires.shift_bound)

pub returns-in-Refused : goal.returns-in-Refused
unfolding outcome_of edition_of
returns-in-Refused c = refused_higher c.args.plain.now c.args.shift c.body-told.result c.body-told.ensures c.in-Refused.is

pub returns : goal.returns
unfolding outcome_of edition_of
returns c = accepted_higher c.args.plain.now c.args.shift c.body-told.result c.body-told.ensures c.in_default.is
