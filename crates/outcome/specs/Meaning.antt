-- What each case of an answer in code says, in the terms of the definition: its number and its values.
use Rattle.std.specs.Prelude.{ℕ, Option, None, Some}
use Rattle.std.proofs.Math.Option.{Option as Place, none, some}
use Rattle.definition.specs.Verdict as definition
use Rattle.definition.specs.Prove as prove
use Rattle.outcome.specs.declared.Outcome.{Outcome}
use Rattle.outcome.specs.declared.Outcome.TheVariants.{Accepted, Refused}
use Rattle.outcome.specs.declared.Verdict.{Verdict}
use Rattle.outcome.specs.declared.Answer.{Answer}
use Rattle.outcome.specs.declared.Answer.TheVariants.{Done, Refusal}

-- where a test fails first, if it does, as code answers it
abbrev pub Found : Type 0
Found = Option ℕ

unfoldable pub place_of : Found → Place ℕ
place_of (Some place) = some place
place_of None = none

unfoldable pub outcome_of : Outcome → definition.Outcome
outcome_of Accepted = definition.accepted
outcome_of (Refused number place) = definition.refused number place

unfoldable pub verdict_of : Verdict → definition.Verdict
verdict_of v = record { outcome = outcome_of v.outcome; reads = v.reads }

unfoldable pub answer_of : Answer → prove.Answer
answer_of (Done count) = prove.done count
answer_of (Refusal number place) = prove.refusal number place
