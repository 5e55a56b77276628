-- What the tests' outcome says about the definition's result.
use Prim.Native.Nat.{ℕ, ◌*◌, ◌≤◌}
use mathlib.Core.Path.{◌≡◌, refl, sym, ap, ◌∙◌}
use mathlib.Core.List.{List, ◌++◌}
use lib.ListN.{length, drop}
use lib.Dec.{ltb}
use borrow.Author.Tests.{ltb-false}
use Rattle.definition.specs.Block.{block_count, file_of}
use Rattle.definition.specs.Prove.{Answer, Result, done, finish, output_test, refusal, sheet_length_test}
use Rattle.definition.specs.Reading.{sheet_test}
use Rattle.definition.specs.Sheet.{edition1, sheet_of}
use Rattle.definition.specs.Verdict as definition
use Rattle.definition.specs.Verdict.{◌then◌}
use Rattle.layouts.specs.Tests.{if_passes}
use Rattle.batch_definition.specs.Batch.{batch_input_tests, batch_words, honest_batch, prove_batch}
use Rattle.batches.proofs.BatchCompleteness.{done_allowed}
use Rattle.batches.specs.Batched.{AllowedBatch}
use Rattle.outcome.specs.declared.Outcome.{Outcome}
use Rattle.outcome.specs.declared.Outcome.TheVariants.{Accepted, Refused}
use Rattle.outcome.specs.Meaning.{outcome_of}

-- the file written, and its number of blocks
abbrev pub written : List ℕ → List ℕ → List ℕ → List ℕ → List ℕ
written w bounds f coins = file_of (honest_batch w bounds f coins)

abbrev pub blocks : List ℕ → List ℕ → ℕ
blocks w bounds = block_count (batch_words (sheet_of edition1 w) (length bounds))

-- what the passing of all tests says: an order that is allowed, room for the file, and the definition's result
pub record Passed (w bounds f coins output : List ℕ) : Type 0 where
  pub allowed : AllowedBatch w bounds f coins
  pub room : 512 * blocks w bounds ≤ length output
  pub result : prove_batch w bounds f coins output ≡ record { answer = done (blocks w bounds); output = written w bounds f coins ++ drop (length (written w bounds f coins)) output }

module _ (w bounds f coins output : List ℕ) (r : Outcome) (tested : (out : List ℕ) → length out ≡ length output →
    outcome_of r ≡ (sheet_length_test edition1 w then sheet_test edition1 w then batch_input_tests (sheet_of edition1 w) bounds f coins out)) where
  result_is : {o : definition.Outcome} → outcome_of r ≡ o → prove_batch w bounds f coins output ≡ finish o (blocks w bounds) (written w bounds f coins) output
  unfolding prove_batch
  result_is e = ap (λ (o : definition.Outcome). finish o (blocks w bounds) (written w bounds f coins) output) (sym (tested output refl) ∙ e)

  -- a refusal: the output as before
  pub refused_is : {number place : ℕ} → r ≡ Refused number place → prove_batch w bounds f coins output ≡ record { answer = refusal number place; output = output }
  unfolding outcome_of finish
  refused_is e = result_is (ap outcome_of e)

  -- all tests passed
  pub passes : r ≡ Accepted → Passed w bounds f coins output
  unfolding outcome_of finish output_test
  passes e =
      let d = result_is (ap outcome_of e) in
      let a = done_allowed w bounds f coins output (blocks w bounds) (ap (λ (x : Result). x.answer) d) in
      record {
        allowed = a.0;
        room = ltb-false (length output) (512 * blocks w bounds) (if_passes 11 (blocks w bounds) (ltb (length output) (512 * blocks w bounds)) a.1);
        result = d;
      }

-- the answer and the output of the function that writes are the definition's
pub written_is : {w bounds f coins output output₁ : List ℕ} {due : ℕ} {a : Answer} → Passed w bounds f coins output → due ≡ batch_words (sheet_of edition1 w) (length bounds) → a ≡ done (block_count due) →
    output₁ ≡ written w bounds f coins ++ drop (length (written w bounds f coins)) output → (a ≡ (prove_batch w bounds f coins output).answer) × (output₁ ≡ (prove_batch w bounds f coins output).output)
written_is p e ea eo = (
  ea ∙ ap (λ (n : ℕ). done (block_count n)) e ∙ sym (ap (λ (x : Result). x.answer) p.result),
  eo ∙ sym (ap (λ (x : Result). x.output) p.result),
)
