use native.Mathlib.Omega.{arith}
use mathlib.Core.Path.{refl, sym, ◌∙◌}
use Rattle.definition.specs.Sheet.{edition2}
use Rattle.edition.specs.Meaning.{edition_of}
use Rattle.outcome.specs.Meaning.{place_of}
use Rattle.sizes.proofs.DegreeLaws.{degree_first}
use Rattle.sheet.proofs.FirstBroken.{broken_here, broken_next, broken_none}
use Rattle.sheet.proofs.FoldLaws.{first_fold, next_fold}
use Rattle.sheet.proofs.RuleLaws.{failed, held}
use mathlib.Core.Path.{ap}
use Rattle.std.specs.Prelude.{not}
use Rattle.sheet.proofs.broken_folds.Goals as goal

pub next_degree-d-requires : goal.next_degree-d-requires
unfolding edition_of
next_degree-d-requires c = record { e_in_bounds = (c.requires.0, omega arith); folds = (first_fold c.requires.1, degree_first edition2 _) }

pub loop-i-init : goal.loop-i-init
unfolding edition_of
loop-i-init c =
    record { some = omega arith; most = omega arith; folds = first_fold c.requires.1; degree = c.next_degree-d.ensures; same = refl }

pub later_fold_rule-requires : goal.later_fold_rule-requires
later_fold_rule-requires c =
    let v = c.loop-i.invariant in record { in_bounds = (c.requires.0, (v.some, c.loop-i-test.true)); folds = (v.folds, v.degree) }

pub returns-then-not-later_fold_rule : goal.returns-then-not-later_fold_rule
unfolding place_of
returns-then-not-later_fold_rule c =
    sym (broken_here 11 _ _ c.loop-i-test.true (failed c.later_fold_rule.ensures (ap not c.if-not-later_fold_rule.true))) ∙ c.loop-i.invariant.same

pub next_degree-d-requires-in-loop-i : goal.next_degree-d-requires-in-loop-i
unfolding edition_of
next_degree-d-requires-in-loop-i c =
    let v = c.loop-i.invariant in record { e_in_bounds = (c.requires.0, c.loop-i-test.true); folds = (next_fold _ v.some c.loop-i-test.true v.folds (held c.later_fold_rule.ensures (ap not c.if-not-later_fold_rule.false)), v.degree) }

pub loop-i-preserved : goal.loop-i-preserved
unfolding edition_of
loop-i-preserved c =
    let v = c.loop-i.invariant in
    let right = held c.later_fold_rule.ensures (ap not c.if-not-later_fold_rule.false) in
    record {
      some = omega arith;
      most = omega arith;
      folds = next_fold _ v.some c.loop-i-test.true v.folds right;
      degree = c.next_degree-d-in-loop-i.ensures;
      same = sym (broken_next 11 _ _ c.loop-i-test.true right) ∙ v.same;
    }

pub returns : goal.returns
unfolding place_of
returns c = sym (broken_none 11 _ _ c.loop-i-test.false) ∙ c.loop-i.invariant.same
