use Rattle.definition.specs.Lists.{first_of, range}
use Rattle.definition.specs.Sheet.{fold_rule}
use Rattle.outcome.specs.Meaning.{place_of}
use Rattle.sheet.proofs.RuleLaws.{failed, held}
use mathlib.Core.Path.{ap}
use Rattle.std.specs.Prelude.{not}
use Rattle.sheet.proofs.broken_front.Goals as goal

pub returns-then-not-field_rule : goal.returns-then-not-field_rule
unfolding place_of first_of range fold_rule
returns-then-not-field_rule c = simp (failed c.field_rule.ensures (ap not c.if-not-field_rule.true))

pub returns-then-not-size_rule : goal.returns-then-not-size_rule
unfolding place_of first_of range fold_rule
returns-then-not-size_rule c =
    simp (
      held c.field_rule.ensures (ap not c.if-not-field_rule.false),
      failed c.size_rule.ensures (ap not c.if-not-size_rule.true),
    )

pub returns-then-not-degree_rule : goal.returns-then-not-degree_rule
unfolding place_of first_of range fold_rule
returns-then-not-degree_rule c =
    simp (
      held c.field_rule.ensures (ap not c.if-not-field_rule.false),
      held c.size_rule.ensures (ap not c.if-not-size_rule.false),
      failed c.degree_rule.ensures (ap not c.if-not-degree_rule.true),
    )

pub returns-then-not-folding_number : goal.returns-then-not-folding_number
unfolding place_of first_of range fold_rule
returns-then-not-folding_number c =
    simp (
      held c.field_rule.ensures (ap not c.if-not-field_rule.false),
      held c.size_rule.ensures (ap not c.if-not-size_rule.false),
      held c.degree_rule.ensures (ap not c.if-not-degree_rule.false),
      failed c.folding_number.ensures (ap not c.if-not-folding_number.true),
    )

pub rounds_rule-requires : goal.rounds_rule-requires
unfolding fold_rule
rounds_rule-requires c =
    (c.requires, (held c.degree_rule.ensures (ap not c.if-not-degree_rule.false), held c.folding_number.ensures (ap not c.if-not-folding_number.false)))

pub returns-then-not-rounds_rule : goal.returns-then-not-rounds_rule
unfolding place_of first_of range fold_rule
returns-then-not-rounds_rule c =
    simp (
      held c.field_rule.ensures (ap not c.if-not-field_rule.false),
      held c.size_rule.ensures (ap not c.if-not-size_rule.false),
      held c.degree_rule.ensures (ap not c.if-not-degree_rule.false),
      held c.folding_number.ensures (ap not c.if-not-folding_number.false),
      failed c.rounds_rule.ensures (ap not c.if-not-rounds_rule.true),
    )

pub returns-then-not-out_coins_rule : goal.returns-then-not-out_coins_rule
unfolding place_of first_of range fold_rule
returns-then-not-out_coins_rule c =
    simp (
      held c.field_rule.ensures (ap not c.if-not-field_rule.false),
      held c.size_rule.ensures (ap not c.if-not-size_rule.false),
      held c.degree_rule.ensures (ap not c.if-not-degree_rule.false),
      held c.folding_number.ensures (ap not c.if-not-folding_number.false),
      held c.rounds_rule.ensures (ap not c.if-not-rounds_rule.false),
      failed c.out_coins_rule.ensures (ap not c.if-not-out_coins_rule.true),
    )

pub returns : goal.returns
unfolding place_of first_of range fold_rule
returns c =
    simp (
      held c.field_rule.ensures (ap not c.if-not-field_rule.false),
      held c.size_rule.ensures (ap not c.if-not-size_rule.false),
      held c.degree_rule.ensures (ap not c.if-not-degree_rule.false),
      held c.folding_number.ensures (ap not c.if-not-folding_number.false),
      held c.rounds_rule.ensures (ap not c.if-not-rounds_rule.false),
      held c.out_coins_rule.ensures (ap not c.if-not-out_coins_rule.false),
    )
