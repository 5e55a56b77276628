use native.Mathlib.Omega.{arith}
use mathlib.Core.Path.{refl, sym, ◌∙◌}
use Rattle.layouts.specs.SheetRules.{long_enough}
use Rattle.edition.specs.Meaning.{edition_of}
use Rattle.outcome.specs.Meaning.{place_of}
use Rattle.sheet.proofs.FirstBroken.{broken_here, broken_next, broken_none}
use Rattle.sizes.proofs.DegreeLaws.{degree_first, fewer_folds}
use Rattle.sheet.proofs.RuleLaws.{failed, held}
use mathlib.Core.Path.{ap}
use Rattle.std.specs.Prelude.{not}
use Rattle.sheet.proofs.broken_repetitions.Goals as goal

pub bounds-w-2 : goal.bounds-w-2
bounds-w-2 c = omega (arith, long_enough (edition_of c.args.e) c.args.w.now c.requires.e_in_bounds.0)

pub loop-i-init : goal.loop-i-init
loop-i-init c = (degree_first _ _, refl)

pub next_degree-d-requires : goal.next_degree-d-requires
next_degree-d-requires c = record { e_in_bounds = (c.requires.e_in_bounds.0, c.loop-i-test.true); folds = (fewer_folds _ (omega arith) c.requires.folds, c.loop-i.invariant.0) }

pub repetitions_rule-requires : goal.repetitions_rule-requires
repetitions_rule-requires c = record { in_bounds = (long_enough (edition_of c.args.e) c.args.w.now c.requires.e_in_bounds.0, c.loop-i-test.true); shape = (c.requires.e_in_bounds.1, c.next_degree-d.ensures) }

pub returns-then-not-repetitions_rule : goal.returns-then-not-repetitions_rule
unfolding place_of
returns-then-not-repetitions_rule c =
    sym (broken_here 6 _ _ c.loop-i-test.true (failed c.repetitions_rule.ensures (ap not c.if-not-repetitions_rule.true))) ∙ c.loop-i.invariant.1

pub loop-i-preserved : goal.loop-i-preserved
loop-i-preserved c = (
  c.next_degree-d.ensures,
  sym (broken_next 6 _ _ c.loop-i-test.true (held c.repetitions_rule.ensures (ap not c.if-not-repetitions_rule.false))) ∙ c.loop-i.invariant.1,
)

pub returns : goal.returns
unfolding place_of
returns c = sym (broken_none 6 _ _ c.loop-i-test.false) ∙ c.loop-i.invariant.1
