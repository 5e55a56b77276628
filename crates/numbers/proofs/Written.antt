-- The numbers of an answer in code are those of what it means.
use Prim.Native.Nat.{ℕ}
use mathlib.Core.Path.{◌≡◌, refl, sym, ap, subst}
use Rattle.field.specs.Answer.{element_of, powered_of, inverted_of}
use Rattle.outcome.specs.declared.Outcome.{Outcome}
use Rattle.outcome.specs.declared.Outcome.TheVariants.{Accepted, Refused}
use Rattle.outcome.specs.declared.Answer.{Answer}
use Rattle.outcome.specs.declared.Answer.TheVariants.{Done, Refusal}
use Rattle.outcome.specs.Meaning as meaning
use Rattle.outcome.specs.Meaning.{outcome_of}
use Rattle.std.specs.Prelude.{Option as Optional, None, Some, Result as Inverse, Ok, Err, MatchOption}
use Rattle.field.specs.declared.NoInverse.TheVariants.{Zero, NoField}
use Rattle.numbers.specs.Reasons.{reason_number}
use Rattle.arithmetic.specs.declared.Powered.{Powered}
use Rattle.field.specs.declared.NoInverse.{NoInverse}
use Rattle.reader.specs.Words as words
use Rattle.numbers.specs.Numbers.{AnswerNumbers, ElementNumbers, InverseNumbers, OutcomeNumbers, PowerNumbers, WordNumbers, number_of, place_in, refusal_of, value_of, word_number, word_after, element_number, element_after, power_number, power_after, turns_after, inverse_number, inverse_after}

module _ (o : Outcome) where
  pub accepted_numbers : o ≡ Accepted → OutcomeNumbers (outcome_of o) 0 0
  unfolding outcome_of number_of place_in
  accepted_numbers h =
      let m = ap outcome_of (sym h) in
      (ap number_of m, ap place_in m)

  pub refused_numbers : (number place : ℕ) → o ≡ Refused number place → OutcomeNumbers (outcome_of o) number place
  unfolding outcome_of number_of place_in
  refused_numbers number place h =
      let m = ap outcome_of (sym h) in
      (ap number_of m, ap place_in m)

module _ (a : Answer) where
  pub done_numbers : (count : ℕ) → a ≡ Done count → AnswerNumbers (meaning.answer_of a) 0 count
  unfolding meaning.answer_of refusal_of value_of
  done_numbers count h =
      let m = ap meaning.answer_of (sym h) in
      (ap refusal_of m, ap value_of m)

  pub refusal_numbers : (number place : ℕ) → a ≡ Refusal number place → AnswerNumbers (meaning.answer_of a) number place
  unfolding meaning.answer_of refusal_of value_of
  refusal_numbers number place h =
      let m = ap meaning.answer_of (sym h) in
      (ap refusal_of m, ap value_of m)

-- of what may write nothing, in a place where 0 stood before
pub word_shown : (a : Optional ℕ) {n w : ℕ} → MatchOption a (n ≡ 102) (λ x. n ≡ 0) → MatchOption a (w ≡ 0) (λ x. w ≡ x) → WordNumbers (words.value_of a) n w
unfolding words.value_of word_number word_after
word_shown (Some x) h k = (h, k)
word_shown None h k = (h, k)

pub element_shown : (a : Optional ℕ) {n w : ℕ} → MatchOption a (n ≡ 100) (λ x. n ≡ 0) → MatchOption a (w ≡ 0) (λ x. w ≡ x) → ElementNumbers (element_of a) n w
unfolding element_number element_after
element_shown (Some x) h k = (h, k)
element_shown None h k = (h, k)

pub power_shown : {a d : Optional (Powered ℕ)} {n x t : ℕ} → a ≡ d → PowerNumbers (powered_of d) n x t → PowerNumbers (powered_of a) n x t
power_shown {n = n} {x} {t} e = subst (λ v. PowerNumbers (powered_of v) n x t) (sym e)

pub inverse_found : {a : Inverse ℕ NoInverse} {x : ℕ} → a ≡ Ok x → InverseNumbers (inverted_of a) 0 x
unfolding inverse_number inverse_after
inverse_found {x = x} e = subst (λ v. InverseNumbers (inverted_of v) 0 x) (sym e) (refl, refl)

pub no_inverse : {a : Inverse ℕ NoInverse} (reason : NoInverse) {n : ℕ} → a ≡ Err reason → n ≡ reason_number reason → InverseNumbers (inverted_of a) n 0
unfolding inverse_number inverse_after
no_inverse reason {n} e h = subst (λ v. InverseNumbers (inverted_of v) n 0) (sym e) (told reason h)
  where
    told : (reason : NoInverse) → n ≡ reason_number reason → InverseNumbers (inverted_of (Err reason)) n 0
    told Zero h = (h, refl)
    told NoField h = (h, refl)
