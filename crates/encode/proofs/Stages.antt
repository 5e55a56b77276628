-- What the tests' outcome says about the definition's result.
use Prim.Native.Nat.{ℕ, ◌≤◌}
use native.Mathlib.Omega.{arith}
use mathlib.Core.Path.{◌≡◌, refl, sym, ap, ◌∙◌}
use mathlib.Core.List.{List, [], ◌++◌}
use lib.Dec.{ltb}
use lib.ListN.{length, get_or, drop}
use borrow.Author.Tests.{ltb-false}
use Rattle.definition.specs.Field.{spelling_of, word_count}
use Rattle.definition.specs.Prove.{coefficients_test, done, encode, encode_tests, finish, input_range_test, output_test, refusal, sheet_length_test}
use Rattle.definition.specs.Prover.{table_words}
use Rattle.definition.specs.Reading.{sheet_test}
use Rattle.definition.specs.Sheet.{edition1, sheet_of}
use Rattle.definition.specs.Verdict as definition
use Rattle.definition.specs.Verdict.{◌then◌}
use Rattle.layouts.proofs.Lawful.{lawful}
use Rattle.layouts.specs.Tests.{equal_passes, if_passes, then_passes}
use Rattle.outcome.specs.declared.Outcome.{Outcome}
use Rattle.outcome.specs.declared.Outcome.TheVariants.{Accepted, Refused}
use Rattle.outcome.specs.Meaning.{outcome_of}

abbrev pub table_zero : List ℕ → List ℕ → List ℕ
table_zero w f = table_words (sheet_of edition1 w) f

-- the number of words of n elements of the sheet's field
abbrev pub words_in : List ℕ → ℕ → ℕ
words_in w n = word_count (spelling_of (get_or w 0 0)) n

-- what was written, and the output as before after it
pub placed : (table l output : List ℕ) (n : ℕ) → l ≡ table → length l ≡ n → l ++ drop n output ≡ table ++ drop (length table) output
placed table l output n e h = (λ i. e i ++ drop (sym h i) output) ∙ ap (λ (m : ℕ). table ++ drop m output) (ap length e)

-- what the passing of all tests says: the sheet's words, as many coefficients as it makes due, room for table 0, and the definition's result
pub record Passed (w f output : List ℕ) : Type 0 where
  pub long : length w ≡ 12
  pub sheet : sheet_test edition1 w ≡ definition.accepted
  pub coefficients : length f ≡ words_in w (get_or w 2 0)
  pub room : words_in w (get_or w 1 0) ≤ length output
  pub small : get_or w 1 0 ≤ 4096
  pub result : encode w f output ≡ record { answer = done (words_in w (get_or w 1 0)); output = table_zero w f ++ drop (length (table_zero w f)) output }

module _ (w f output : List ℕ) (r : Outcome) (tested : (out : List ℕ) → length out ≡ length output →
    outcome_of r ≡ (sheet_length_test edition1 w then sheet_test edition1 w then encode_tests (sheet_of edition1 w) f out)) where
  result_is : {o : definition.Outcome} → outcome_of r ≡ o → encode w f output ≡ finish o (words_in w (get_or w 1 0)) (table_zero w f) output
  unfolding encode sheet_of
  result_is e = ap (λ (o : definition.Outcome). finish o (words_in w (get_or w 1 0)) (table_zero w f) output) (sym (tested output refl) ∙ e)

  -- a refusal: the output as before
  pub refused_is : {number place : ℕ} → r ≡ Refused number place → encode w f output ≡ record { answer = refusal number place; output = output }
  unfolding outcome_of finish
  refused_is e = result_is (ap outcome_of e)

  -- all tests passed
  pub passes : r ≡ Accepted → Passed w f output
  unfolding outcome_of finish sheet_length_test encode_tests coefficients_test output_test sheet_of
  passes e =
      let a = then_passes (sheet_length_test edition1 w) _ (sym (tested output refl) ∙ ap outcome_of e) in
      let b = then_passes (sheet_test edition1 w) _ a.1 in
      let c = then_passes (coefficients_test (sheet_of edition1 w) f) _ b.1 in
      let d = then_passes (input_range_test (sheet_of edition1 w) [] f) _ c.1 in
      record {
        long = equal_passes 10 0 (length w) 12 a.0;
        sheet = b.0;
        coefficients = equal_passes 10 1 (length f) (words_in w (get_or w 2 0)) c.0;
        room = ltb-false (length output) (words_in w (get_or w 1 0)) (if_passes 11 (words_in w (get_or w 1 0)) (ltb (length output) (words_in w (get_or w 1 0))) d.1);
        small = (lawful edition1 w (omega (arith, equal_passes 10 0 (length w) 12 a.0)) b.0).small;
        result = result_is (ap outcome_of e);
      }
