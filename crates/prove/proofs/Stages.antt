-- What the tests' outcome says about the definition's result.
use Prim.Native.Nat.{ℕ, ◌*◌, ◌≤◌}
use mathlib.Core.Path.{◌≡◌, refl, sym, ap, ◌∙◌}
use mathlib.Core.List.{List, ◌++◌}
use lib.ListN.{length, drop}
use lib.Dec.{ltb}
use borrow.Author.Tests.{ltb-false}
use Rattle.definition.specs.Block.{block_count, file_of}
use Rattle.definition.specs.Layout.{words_due}
use Rattle.definition.specs.Prove.{Answer, Result, done, finish, output_test, prove_in, prove_tests, refusal, sheet_length_test}
use Rattle.definition.specs.Prover.{honest_stream}
use Rattle.definition.specs.Reading.{sheet_test}
use Rattle.definition.specs.Sheet.{Edition, sheet_length, sheet_of}
use Rattle.definition.specs.Verdict as definition
use Rattle.definition.specs.Verdict.{◌then◌}
use Rattle.completeness.specs.Numbered.{Allowed}
use Rattle.completeness.proofs.ProveAccepted.{done_allowed}
use Rattle.layouts.specs.Tests.{equal_passes, if_passes}
use Rattle.outcome.specs.declared.Outcome.{Outcome}
use Rattle.outcome.specs.declared.Outcome.TheVariants.{Accepted, Refused}
use Rattle.outcome.specs.Meaning.{outcome_of}

-- the file written, and its number of blocks
abbrev pub written : Edition → List ℕ → List ℕ → List ℕ → List ℕ
written ed w f coins = file_of (honest_stream ed w f coins)

abbrev pub blocks : Edition → List ℕ → ℕ
blocks ed w = block_count (words_due ed (sheet_of ed w))

-- what the passing of all tests says: the sheet's words, an order that is allowed, room for the file, and the definition's result
pub record Passed (ed : Edition) (w f coins output : List ℕ) : Type 0 where
  pub long : length w ≡ sheet_length ed
  pub allowed : Allowed ed w f coins
  pub room : 512 * blocks ed w ≤ length output
  pub result : prove_in ed w f coins output ≡ record { answer = done (blocks ed w); output = written ed w f coins ++ drop (length (written ed w f coins)) output }

module _ (ed : Edition) (w f coins output : List ℕ) (r : Outcome) (tested : (out : List ℕ) → length out ≡ length output →
    outcome_of r ≡ (sheet_length_test ed w then sheet_test ed w then prove_tests ed (sheet_of ed w) f coins out)) where
  result_is : {o : definition.Outcome} → outcome_of r ≡ o → prove_in ed w f coins output ≡ finish o (blocks ed w) (written ed w f coins) output
  unfolding prove_in
  result_is e = ap (λ (o : definition.Outcome). finish o (blocks ed w) (written ed w f coins) output) (sym (tested output refl) ∙ e)

  -- a refusal: the output as before
  pub refused_is : {number place : ℕ} → r ≡ Refused number place → prove_in ed w f coins output ≡ record { answer = refusal number place; output = output }
  unfolding outcome_of finish
  refused_is e = result_is (ap outcome_of e)

  -- all tests passed
  pub passes : r ≡ Accepted → Passed ed w f coins output
  unfolding outcome_of finish sheet_length_test output_test
  passes e =
      let d = result_is (ap outcome_of e) in
      let a = done_allowed ed w f coins output (blocks ed w) (ap (λ (x : Result). x.answer) d) in
      record {
        long = equal_passes 10 0 (length w) (sheet_length ed) a.0.words;
        allowed = a.0;
        room = ltb-false (length output) (512 * blocks ed w) (if_passes 11 (blocks ed w) (ltb (length output) (512 * blocks ed w)) a.1);
        result = d;
      }

-- the answer and the output of the function that writes are the definition's
pub written_is : {ed : Edition} {w f coins output output₁ : List ℕ} {due : ℕ} {a : Answer} → Passed ed w f coins output → due ≡ words_due ed (sheet_of ed w) → a ≡ done (block_count due) →
    output₁ ≡ written ed w f coins ++ drop (length (written ed w f coins)) output → (a ≡ (prove_in ed w f coins output).answer) × (output₁ ≡ (prove_in ed w f coins output).output)
written_is p e ea eo = (
  ea ∙ ap (λ (n : ℕ). done (block_count n)) e ∙ sym (ap (λ (x : Result). x.answer) p.result),
  eo ∙ sym (ap (λ (x : Result). x.output) p.result),
)

-- the words are the honest ones of this sheet, polynomial and coins. A record, as `Gives` is
pub record Streamed (ed : Edition) (w f coins words : List ℕ) : Type 0 where
  pub are : words ≡ honest_stream ed w f coins

pub streamed : {ed : Edition} {w f coins words : List ℕ} → words ≡ honest_stream ed w f coins → Streamed ed w f coins words
streamed h = record { are = h }
