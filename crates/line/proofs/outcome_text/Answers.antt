use mathlib.Core.Path.{sym, subst}
use native.Mathlib.Omega.{arith}
use Rattle.definition.specs.Line.{outcome_text}
use Rattle.outcome.specs.declared.Outcome.{Outcome}
use Rattle.outcome.specs.Meaning.{outcome_of}
use Rattle.line.specs.Text.{Holds, begun}
use Rattle.line.proofs.outcome_text.Goals as goal

pub returns-in-Accepted : goal.returns-in-Accepted
unfolding outcome_text outcome_of
returns-in-Accepted c =
    let e = c.empty in
    let outcome_is = c.in-Accepted.is in
    (subst (λ (o : Outcome). Holds c.text.result (outcome_text (outcome_of o))) (sym outcome_is) (begun e.result c.text.result _ e.ensures c.text.ensures), omega arith)

pub returns-in-Refused : goal.returns-in-Refused
unfolding outcome_of
returns-in-Refused c =
    let r = c.refusal in
    (subst (λ (o : Outcome). Holds r.result (outcome_text (outcome_of o))) (sym c.in-Refused.is) r.ensures.0, r.ensures.1)
