use native.Mathlib.Omega.{arith}
use lib.ListN.{length}
use Rattle.definition.specs.Sheet.{edition1, sheet_of}
use Rattle.batch_sheet.specs.Rules.{none_broken}
use Rattle.outcome.specs.Answers.{nowhere}
use Rattle.outcome.specs.Meaning.{outcome_of}
use Rattle.batch_inputs.proofs.Stages.{rule_broken}
use Rattle.batch_inputs.proofs.after_sheet.Goals as goal

-- `batch_inputs::after_sheet`: a rule of refusal 15 is broken, or the tests after it are made. Assumes nothing.
pub broken-broken-requires : goal.broken-broken-requires
broken-broken-requires c = (c.requires.0, omega arith)

pub returns-in-Some : goal.returns-in-Some
unfolding outcome_of
returns-in-Some c =
    λ output l.
    let a = c.args in
    rule_broken a.w.now a.bounds.now a.f.now a.coins.now output c.broken-broken.ensures c.in-Some.is

pub after_rules-requires : goal.after_rules-requires
after_rules-requires c =
    let a = c.args in record { edition1_in_bounds = (c.requires.0, c.requires.1); bounds_value = none_broken (sheet_of edition1 a.w.now) (length a.bounds.now) a.bounds.now (nowhere c.broken-broken.ensures c.in_default.is) }

pub returns : goal.returns
returns c = λ output l. c.after_rules.ensures output l
