use native.Mathlib.Omega.{arith}
use mathlib.Core.Path.{refl, ◌∙◌}
use Rattle.edition.specs.Meaning.{edition_of}
use Rattle.outcome.specs.Answers.{at_place, nowhere}
use Rattle.outcome.specs.Meaning.{outcome_of}
use Rattle.batch_reading.proofs.NumberLaws.{all_bounds, numbers_pass, other_blocks, rule_broken, sheet_broken, sheet_passes, shift_asks}
use Rattle.batch_reading.proofs.numbers.Goals as goal

pub returns-in-Some : goal.returns-in-Some
unfolding outcome_of edition_of
returns-in-Some c = sheet_broken c.args.w.now c.args.blocks c.in-Some.place (at_place c.broken-broken.ensures c.in-Some.is)

pub returns-in-Some-ruled : goal.returns-in-Some-ruled
unfolding outcome_of edition_of
returns-in-Some-ruled c = rule_broken c.args.w.now c.args.blocks (nowhere c.broken-broken.ensures c.in_default.is) refl c.in-Some-ruled.place (at_place c.broken-ruled.ensures c.in-Some-ruled.is ∙ all_bounds c.args.w.now)

pub words_due-requires : goal.words_due-requires
unfolding edition_of
words_due-requires c = (omega (arith, c.requires), sheet_passes c.args.w.now c.args.blocks (nowhere c.broken-broken.ensures c.in_default.is))

pub shift-requires : goal.shift-requires
unfolding edition_of
shift-requires c = record { in_bounds = omega (arith, c.requires); le_count = shift_asks c.args.w.now c.args.blocks (nowhere c.broken-broken.ensures c.in_default.is) refl (nowhere c.broken-ruled.ensures c.in_default-ruled.is ∙ all_bounds c.args.w.now) }

pub returns-then-blocks-due_blocks : goal.returns-then-blocks-due_blocks
unfolding outcome_of edition_of
returns-then-blocks-due_blocks c =
    other_blocks c.args.w.now c.args.blocks (nowhere c.broken-broken.ensures c.in_default.is) refl (nowhere c.broken-ruled.ensures c.in_default-ruled.is ∙ all_bounds c.args.w.now)
    c.words_due.ensures.0 c.shift.ensures.0 c.if-blocks-due_blocks.true

pub returns : goal.returns
unfolding outcome_of edition_of
returns c =
    numbers_pass c.args.w.now c.args.blocks (nowhere c.broken-broken.ensures c.in_default.is) refl (nowhere c.broken-ruled.ensures c.in_default-ruled.is ∙ all_bounds c.args.w.now)
    c.words_due.ensures.0 c.shift.ensures.0 c.if-blocks-due_blocks.false
