use native.Mathlib.Omega.{arith}
use Rattle.outcome.specs.Answers.{at_place, nowhere}
use Rattle.outcome.specs.Meaning.{place_of}
use Rattle.batch_reading.proofs.StageLaws.{place_inside, range_at, range_none}
use Rattle.batch_reading.proofs.element_out_of_range.Goals as goal

pub overflow_add-result : goal.overflow_add-result
overflow_add-result c = omega (arith, c.requires, place_inside c.args.w.now c.args.from c.args.to c.requires.1.0 c.requires.1.1 (at_place c.coefficient_out_of_range-found.ensures c.in-Some.is))

pub returns-in-Some : goal.returns-in-Some
unfolding place_of
returns-in-Some c = range_at c.args.w.now c.args.from c.args.to (at_place c.coefficient_out_of_range-found.ensures c.in-Some.is)

pub returns : goal.returns
unfolding place_of
returns c = range_none c.args.w.now c.args.from c.args.to (nowhere c.coefficient_out_of_range-found.ensures c.in_default.is)
