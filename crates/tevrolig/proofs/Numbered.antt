-- The numbers of an answer in code are those of the definition's.
use Prim.Native.Nat.{ℕ}
use native.Mathlib.Omega.{arith}
use mathlib.Core.Path.{◌≡◌, refl, sym, ap, ◌∙◌}
use mathlib.Core.Logic.{◌⊎◌, inl, inr, ⊎_elim}
use mathlib.Core.List.{List}
use mathlib.Core.Option.{Option, none, some}
use Rattle.definition.specs.Verdict.{Outcome, Verdict}
use Rattle.definition.specs.Field.{FieldAnswer, element, no_field, PowerAnswer, powered, in_no_field, InverseAnswer, found, no_inverse, unknown_field}
use Rattle.definition.specs.Prove as prove
use Rattle.outcome.specs.Gives.{Gives}
use Rattle.numbers.specs.Numbers.{AnswerNumbers, OutcomeNumbers, VerdictNumbers, number_of, place_in, refusal_of, value_of, word_number, word_after, element_number, element_after, power_number, power_after, turns_after, inverse_number, inverse_after}

-- what is written of an outcome is what the definition's outcome says, and so on
pub read_numbers : {o d : Outcome} {number place : ℕ} → OutcomeNumbers o number place → o ≡ d → OutcomeNumbers d number place
read_numbers n e = (n.0 ∙ ap number_of e, n.1 ∙ ap place_in e)

pub verdict_numbers : {v d : Verdict} {number place reads : ℕ} → VerdictNumbers v number place reads → v ≡ d → VerdictNumbers d number place reads
verdict_numbers n e = (
  n.0 ∙ ap (λ (x : Verdict). number_of x.outcome) e,
  (n.1.0 ∙ ap (λ (x : Verdict). place_in x.outcome) e, n.1.1 ∙ ap (λ (x : Verdict). x.reads) e),
)

-- an answer, and beside it the whole output
abbrev pub ResultNumbers : prove.Result → ℕ → ℕ → List ℕ → Type 0
ResultNumbers d number value output = (number ≡ refusal_of d.answer) × ((value ≡ value_of d.answer) × (output ≡ d.output))

pub answer_written : {a : prove.Answer} {d : prove.Result} {number value : ℕ} {output : List ℕ} → AnswerNumbers a number value → (a ≡ d.answer) × (output ≡ d.output) → ResultNumbers d number value output
answer_written n e = (n.0 ∙ ap refusal_of e.0, (n.1 ∙ ap value_of e.0, e.1))

pub given_written : {result : List ℕ → prove.Result} {before after : List ℕ} {a : prove.Answer} {number value : ℕ} → AnswerNumbers a number value → Gives result before a after → ResultNumbers (result before) number value after
given_written n g = answer_written n (g.answer, g.output)

-- or the number of an answer alone
pub output_written : {a : prove.Answer} {d : prove.Result} {number : ℕ} {output : List ℕ} → number ≡ refusal_of a → (a ≡ d.answer) × (output ≡ d.output) → (number ≡ refusal_of d.answer) × (output ≡ d.output)
output_written n e = (n ∙ ap refusal_of e.0, e.1)

-- A function that may write nothing: it answers 0, and what stands in its place after the call is the same whatever stood there before; or it answers a reason,
-- and that is what stood there before.
abbrev pub Optional : {A : Type 0} → (A → ℕ) → (A → ℕ → ℕ) → Type 0
Optional {A} number after = (a : A) → ((number a ≡ 0) × ((before : ℕ) → after a 0 ≡ after a before)) ⊎ ((number a ≡ 0 → ⊥) × ((before : ℕ) → before ≡ after a before))

pub element_optional : Optional element_number element_after
unfolding element_number element_after
element_optional (element x) = inl (refl, λ before. refl)
element_optional no_field = inr (λ e. omega arith, λ before. refl)

pub word_optional : Optional word_number word_after
unfolding word_number word_after
word_optional (some x) = inl (refl, λ before. refl)
word_optional none = inr (λ e. omega arith, λ before. refl)

pub inverse_optional : Optional inverse_number inverse_after
unfolding inverse_number inverse_after
inverse_optional (found x) = inl (refl, λ before. refl)
inverse_optional no_inverse = inr (λ e. omega arith, λ before. refl)
inverse_optional unknown_field = inr (λ e. omega arith, λ before. refl)

pub power_optional : Optional power_number power_after
unfolding power_number power_after
power_optional (powered x turns) = inl (refl, λ before. refl)
power_optional in_no_field = inr (λ e. omega arith, λ before. refl)

pub turns_optional : Optional power_number turns_after
unfolding power_number turns_after
turns_optional (powered x turns) = inl (refl, λ before. refl)
turns_optional in_no_field = inr (λ e. omega arith, λ before. refl)

-- what it answers, and what stands in its place after the call, where the store is made and where it is not
module _ {A : Type 0} {number : A → ℕ} {after : A → ℕ → ℕ} (o : Optional number after) {a d : A} {n : ℕ} (number_is : n ≡ number a) (same : a ≡ d) where
  pub stored : {value : ℕ} → value ≡ after a 0 → n ≡ 0 → (before : ℕ) → (n ≡ number d) × (value ≡ after d before)
  stored value_is zero before =
      let h = ⊎_elim (λ w. w.1 before) (λ k. absurd (k.0 (sym number_is ∙ zero))) (o a) in
      (number_is ∙ ap number same, value_is ∙ (h ∙ ap (λ x. after x before) same))

  pub not_stored : (n ≡ 0 → ⊥) → (before : ℕ) → (n ≡ number d) × (before ≡ after d before)
  not_stored reason before =
      let h = ⊎_elim (λ w. absurd (reason (number_is ∙ w.0))) (λ k. k.1 before) (o a) in
      (number_is ∙ ap number same, h ∙ ap (λ x. after x before) same)
