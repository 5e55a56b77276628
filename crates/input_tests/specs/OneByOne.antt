-- The tests of an order one after the other: what the answer of one says of its outcome and that of the tests after it.
use Rattle.std.specs.Prelude.{ℕ, ◌≤◌, ◌<◌, ◌≡◌, not, List, eqb, length}
use Rattle.std.proofs.Common.{arith, ◌∙◌, eq-eqb, ne_eqb, lt-ltb, le-ltb}
use Rattle.std.proofs.Math.Path.{sym, ap}
use Rattle.layouts.specs.Tests.{equal_passes, then_passes}
use Rattle.definition.specs.Prove.{output_test, sheet_length_test}
use Rattle.definition.specs.Reading.{sheet_test}
use Rattle.definition.specs.Sheet.{Edition, sheet_length}
use Rattle.definition.specs.Verdict.{Outcome, accepted, refused, refuse_at, refuse_if, ◌then◌}
use Rattle.std.specs.Prelude.{Some, None}
use Rattle.outcome.specs.declared.Outcome.{Outcome as Answered}
use Rattle.outcome.specs.declared.Outcome.TheVariants.{Accepted, Refused}
use Rattle.outcome.specs.Meaning.{Found, outcome_of, place_of}

-- ---- one test, and the tests after it

-- two numbers that should be equal
pub differ : (number place a b : ℕ) (next : Outcome) → (a ≡ b → ⊥) → refused number place ≡ (refuse_if number place (not (eqb a b)) then next)
unfolding refuse_if ◌then◌
differ number place a b next h = sym (rw (ne_eqb a b h))

pub agree : (number place a b : ℕ) {o next : Outcome} → a ≡ b → o ≡ next → o ≡ (refuse_if number place (not (eqb a b)) then next)
unfolding refuse_if ◌then◌
agree number place a b h e = rw (eq-eqb a b h) e

-- a test by the place that it finds
pub found : (number : ℕ) {place : ℕ} {r : Found} {test : Outcome} (next : Outcome) → refuse_at number (place_of r) ≡ test → r ≡ Some place → refused number place ≡ (test then next)
unfolding place_of refuse_at ◌then◌
found number next e h = ap (λ (o : Outcome). o then next) (sym (ap (λ (x : Found). refuse_at number (place_of x)) h) ∙ e)

pub clear : (number : ℕ) {r : Found} {test o next : Outcome} → refuse_at number (place_of r) ≡ test → r ≡ None → o ≡ next → o ≡ (test then next)
unfolding place_of refuse_at ◌then◌
clear number {next = next} e h q = q ∙ ap (λ (o : Outcome). o then next) (sym (ap (λ (x : Found). refuse_at number (place_of x)) h) ∙ e)

-- the output, which is tested last
pub short : (due need have : ℕ) → have < need → refused 11 due ≡ output_test due need have
unfolding output_test refuse_if
short due need have h = sym (rw (lt-ltb have need h))

pub enough : (due need have : ℕ) → need ≤ have → accepted ≡ output_test due need have
unfolding output_test refuse_if
enough due need have h = sym (rw (le-ltb have need h))

-- two tests made by one function, and the tests after them
module _ (a b : Outcome) {r : Answered} (first : outcome_of r ≡ (a then b)) where
  pub both_refused : {number place : ℕ} (next : Outcome) → r ≡ Refused number place → refused number place ≡ (a then b then next)
  unfolding outcome_of ◌then◌
  both_refused {number} {place} next h = go a b (sym (ap outcome_of h) ∙ first)
    where
      go : (a b : Outcome) → refused number place ≡ (a then b) → refused number place ≡ (a then b then next)
      go accepted b e = ap (λ (o : Outcome). o then next) e
      go (refused n p) b e = e

  module _ (passed : r ≡ Accepted) where
    both_passed : (a ≡ accepted) × (b ≡ accepted)
    unfolding outcome_of
    both_passed = then_passes a b (sym first ∙ ap outcome_of passed)

    pub after_both : {o next : Outcome} → o ≡ next → o ≡ (a then b then next)
    unfolding ◌then◌
    after_both {next = next} e = e ∙ sym (λ i. both_passed.0 i then both_passed.1 i then next)

module _ (ed : Edition) (w : List ℕ) {r : Answered} (first : outcome_of r ≡ (sheet_length_test ed w then sheet_test ed w)) where
  pub sheet_refused : {number place : ℕ} (next : Outcome) → r ≡ Refused number place → refused number place ≡ (sheet_length_test ed w then sheet_test ed w then next)
  sheet_refused next h = both_refused (sheet_length_test ed w) (sheet_test ed w) first next h

  module _ (passed : r ≡ Accepted) where
    pub sheet_long : sheet_length ed ≤ length w
    unfolding sheet_length_test
    sheet_long = omega (arith, equal_passes 10 0 (length w) (sheet_length ed) (both_passed (sheet_length_test ed w) (sheet_test ed w) first passed).0)

    pub sheet_passed : sheet_test ed w ≡ accepted
    sheet_passed = (both_passed (sheet_length_test ed w) (sheet_test ed w) first passed).1

    pub after_sheet : {o next : Outcome} → o ≡ next → o ≡ (sheet_length_test ed w then sheet_test ed w then next)
    after_sheet e = after_both (sheet_length_test ed w) (sheet_test ed w) first passed e
