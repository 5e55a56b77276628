-- What the tests of a conversion answer and leave, and what that says of the definition's result.
use Rattle.std.specs.Prelude.{ℕ, ◌+◌, ◌-◌, ◌*◌, ◌/◌, ◌≤◌, ◌<◌, List, ◌++◌, ◌≡◌, ltb, take, drop}
use Rattle.std.proofs.Common.{arith, le-ltb, lt-ltb, ltb-false, ◌∙◌, length-take, length-take-le, take-take}
use Rattle.std.proofs.Math.Path.{sym, ap, subst}
use Rattle.std.proofs.Math.ListN.{length}
use Rattle.definition.specs.Block.{block_count, file_of, stream_of}
use Rattle.definition.specs.Convert.{backward, convert, folds_test, forward}
use Rattle.definition.specs.Layout.{words_due}
use Rattle.definition.specs.Prove
use Rattle.definition.specs.Prove.{Result, done, finish, output_test}
use Rattle.definition.specs.Reading.{reading, sheet_test}
use Rattle.definition.specs.Sheet.{Edition, edition1, edition2, sheet_length, sheet_of}
use Rattle.definition.specs.Verdict as definition
use Rattle.definition.specs.Verdict.{◌then◌, refuse_at, refuse_if}
use Rattle.completeness.proofs.Conversion.{backward_length, forward_length}
use Rattle.layouts.specs.Tests.{if_passes, then_passes}
use Rattle.outcome.specs.declared.Answer.{Answer}
use Rattle.outcome.specs.declared.Answer.TheVariants.{Done, Refusal}
use Rattle.std.specs.Prelude.{Some, None}
use Rattle.outcome.specs.declared.Outcome.{Outcome}
use Rattle.outcome.specs.declared.Outcome.TheVariants.{Accepted, Refused}
use Rattle.outcome.specs.Meaning.{Found, answer_of, outcome_of, place_of}
use Rattle.reading.specs.Passed.{sheet_passes, words_there}
use Rattle.ranges.specs.RoundsOfLayout.{long_enough}
use Rattle.sheet.specs.Front.{sheet_front, test_front}

-- 11, of the words to write and the number of bytes of the output
abbrev pub output_for : List ℕ → ℕ → definition.Outcome
output_for words size = output_test (block_count (length words)) (512 * block_count (length words)) size

-- a refusal of tests, or their passing
unfoldable pub tests_of : Answer → definition.Outcome
tests_of (Done count) = definition.accepted
tests_of (Refusal number place) = definition.refused number place

-- what 11 answers, of a number of words to write: its refusal, or this number
pub record Sized (count size : ℕ) (r : Answer) : Type 0 where
  pub outcome : tests_of r ≡ output_test (block_count count) (512 * block_count count) size
  pub done : (n : ℕ) → r ≡ Done n → n ≡ count

-- what tests of a file answer and leave: where they pass, the number of words to write, and the words of the file at the front
pub record Tested (tests : definition.Outcome) (new file : List ℕ) (r : Answer) (lent : List ℕ) : Type 0 where
  pub outcome : tests_of r ≡ tests
  pub done : (n : ℕ) → r ≡ Done n → n ≡ length new
  pub stream : tests ≡ definition.accepted → take (127 * (length file / 512)) lent ≡ stream_of file

never : {n p : ℕ} → definition.refused n p ≡ definition.accepted → ⊥
never e = let z : ◌≡◌ {A = ℕ} 0 1 = cc in omega arith

not_done : {number place n : ℕ} → Refusal number place ≡ Done n → ⊥
not_done e = let z : ◌≡◌ {A = ℕ} 0 1 = cc in omega arith

-- ---- the sheet and the words due, after reading

module _ (ed : Edition) (file words : List ℕ) (passed : reading ed file ≡ definition.accepted) (stream : take (127 * (length file / 512)) words ≡ stream_of file) where
  enough : sheet_length ed ≤ length (stream_of file)
  enough = long_enough ed (stream_of file) (words_there ed file passed)

  front : take (sheet_length ed) words ≡ take (sheet_length ed) (stream_of file)
  front =
      sym (take-take (sheet_length ed) (127 * (length file / 512)) words (omega (arith, enough, ap length stream, length-take (127 * (length file / 512)) words)))
      ∙ ap (take (sheet_length ed)) stream

  pub head_passes : (sheet_length ed ≤ length (take (sheet_length ed) words)) × (sheet_test ed (take (sheet_length ed) words) ≡ definition.accepted)
  head_passes =
      subst (λ (l : List ℕ). (sheet_length ed ≤ length l) × (sheet_test ed l ≡ definition.accepted)) (sym front)
      (omega (arith, length-take-le (sheet_length ed) (stream_of file) enough), test_front ed (stream_of file) enough ∙ sheet_passes ed file passed)

  pub head_is : sheet_of ed (take (sheet_length ed) words) ≡ sheet_of ed (stream_of file)
  head_is = ap (sheet_of ed) front ∙ sheet_front ed (stream_of file) enough (sheet_passes ed file passed)

  pub due_is : {due : ℕ} → due ≡ words_due ed (sheet_of ed (take (sheet_length ed) words)) → due ≡ words_due ed (sheet_of ed (stream_of file))
  due_is e = e ∙ ap (words_due ed) head_is

-- the words that the definition writes, by number
module _ (file : List ℕ) {due : ℕ} where
  pub forward_count : reading edition1 file ≡ definition.accepted → due ≡ words_due edition1 (sheet_of edition1 (stream_of file)) → due + 6 ≡ length (forward (stream_of file))
  unfolding words_due
  forward_count passed is = omega (arith, forward_length file passed)

  pub backward_count : reading edition2 file ≡ definition.accepted → folds_test (sheet_of edition2 (stream_of file)) ≡ definition.accepted → due ≡ words_due edition2 (sheet_of edition2 (stream_of file)) →
      due - 6 ≡ length (backward (stream_of file))
  unfolding words_due
  backward_count passed equal is = omega (arith, backward_length file passed equal)

-- ---- the tests one after the other

-- 11 alone
pub too_short : (count size : ℕ) → size < 512 * block_count count → Sized count size (Refusal 11 (block_count count))
unfolding tests_of output_test refuse_if
too_short count size h = record { outcome = ap (refuse_if 11 (block_count count)) (sym (lt-ltb size (512 * block_count count) h)); done = λ n e. absurd (not_done e) }

pub long_enough_for : (count size : ℕ) → 512 * block_count count ≤ size → Sized count size (Done count)
unfolding tests_of output_test refuse_if
long_enough_for count size h = record { outcome = ap (refuse_if 11 (block_count count)) (sym (le-ltb size (512 * block_count count) h)); done = λ n e. cc }

-- a test that answers Accepted passes
pub accepted_is : {o : Outcome} {f : definition.Outcome} → outcome_of o ≡ f → o ≡ Accepted → f ≡ definition.accepted
unfolding outcome_of
accepted_is h e = sym h ∙ ap outcome_of e

-- a test refuses, and with it the tests that begin with it
pub refuses : {o : Outcome} {f : definition.Outcome} {number place : ℕ} → outcome_of o ≡ f → o ≡ Refused number place → definition.refused number place ≡ f
unfolding outcome_of
refuses h e = sym (ap outcome_of e) ∙ h

pub found_refuses : {o : Found} {f : definition.Outcome} {number place : ℕ} → refuse_at number (place_of o) ≡ f → o ≡ Some place → definition.refused number place ≡ f
unfolding place_of refuse_at
found_refuses {number = number} h e = sym (ap (λ (x : Found). refuse_at number (place_of x)) e) ∙ h

pub nothing_passes : (number : ℕ) {o : Found} {f : definition.Outcome} → refuse_at number (place_of o) ≡ f → o ≡ None → f ≡ definition.accepted
unfolding place_of refuse_at
nothing_passes number h e = sym h ∙ ap (λ (x : Found). refuse_at number (place_of x)) e

pub first_refuses : {number place : ℕ} {f : definition.Outcome} (next : definition.Outcome) → definition.refused number place ≡ f → definition.refused number place ≡ (f then next)
unfolding ◌then◌
first_refuses next h = ap (λ (x : definition.Outcome). x then next) h

-- a test passes, and with it the next is the tests
pub next_is : {f : definition.Outcome} (next : definition.Outcome) → f ≡ definition.accepted → (f then next) ≡ next
unfolding ◌then◌
next_is next h = ap (λ (x : definition.Outcome). x then next) h

pub tests_refuse : {tests : definition.Outcome} {new file lent : List ℕ} {number place : ℕ} → definition.refused number place ≡ tests → Tested tests new file (Refusal number place) lent
unfolding tests_of
tests_refuse h = record { outcome = h; done = λ n e. absurd (not_done e); stream = λ e. absurd (never (h ∙ e)) }

-- the tests of the file pass, then 11 is asked
pub tests_end : {first : definition.Outcome} {new file lent : List ℕ} {count size : ℕ} {r : Answer} → first ≡ definition.accepted → count ≡ length new →
    take (127 * (length file / 512)) lent ≡ stream_of file → Sized count size r → Tested (first then output_for new size) new file r lent
tests_end {new = new} {count = count} {size = size} p n st sized = record {
  outcome = sized.outcome ∙ ap (λ (m : ℕ). output_test (block_count m) (512 * block_count m) size) n ∙ sym (next_is (output_for new size) p);
  done = λ m e. sized.done m e ∙ n;
  stream = λ _. st;
}

-- ---- what the outcome of all tests says about the result

-- all tests passed: the number of words, room for their file, the definition's result, and the words read at the front of the places lent
pub record Ready (tests : definition.Outcome) (new file output lent : List ℕ) (count : ℕ) : Type 0 where
  pub passed : tests ≡ definition.accepted
  pub words : count ≡ length new
  pub size : 512 * block_count count ≤ length output
  pub result : convert tests new output ≡ record { answer = done (block_count (length new)); output = file_of new ++ drop (length (file_of new)) output }
  pub stream : take (127 * (length file / 512)) lent ≡ stream_of file

module _ (tests : definition.Outcome) (new output : List ℕ) {file lent : List ℕ} {r : Answer} (t : Tested (tests then output_for new (length output)) new file r lent) where
  result_is : {o : definition.Outcome} → tests_of r ≡ o → convert tests new output ≡ finish o (block_count (length new)) (file_of new) output
  unfolding convert
  result_is e = ap (λ (o : definition.Outcome). finish o (block_count (length new)) (file_of new) output) (sym t.outcome ∙ e)

  -- a refusal: the output as before
  pub refused_is : {number place : ℕ} → r ≡ Refusal number place → (answer_of r ≡ (convert tests new output).answer) × (output ≡ (convert tests new output).output)
  unfolding tests_of finish answer_of
  refused_is e = let q = result_is (ap tests_of e) in (ap answer_of e ∙ sym (ap (λ (x : Result). x.answer) q), sym (ap (λ (x : Result). x.output) q))

  pub ready : {count : ℕ} → r ≡ Done count → Ready tests new file output lent count
  unfolding tests_of finish output_test
  ready {count} e =
      let m = block_count (length new) in
      let all : (tests then output_for new (length output)) ≡ definition.accepted = sym t.outcome ∙ ap tests_of e in
      let p = then_passes tests (output_for new (length output)) all in
      let n = t.done count e in
      record {
        passed = p.0;
        words = n;
        size = subst (λ (x : ℕ). 512 * block_count x ≤ length output) (sym n) (ltb-false (length output) (512 * m) (if_passes 11 m (ltb (length output) (512 * m)) p.1));
        result = result_is (ap tests_of e);
        stream = t.stream all;
      }

-- the answer and the output of the function that writes are the definition's
pub written_is : {tests : definition.Outcome} {new file output output₁ lent w : List ℕ} {count : ℕ} {a : Prove.Answer} → Ready tests new file output lent count → w ≡ new →
    a ≡ done (block_count count) → output₁ ≡ file_of w ++ drop (length (file_of w)) output → (a ≡ (convert tests new output).answer) × (output₁ ≡ (convert tests new output).output)
written_is {output = output} p e ea eo = (
  ea ∙ ap (λ (m : ℕ). done (block_count m)) p.words ∙ sym (ap (λ (x : Result). x.answer) p.result),
  eo ∙ ap (λ (l : List ℕ). file_of l ++ drop (length (file_of l)) output) e ∙ sym (ap (λ (x : Result). x.output) p.result),
)
