-- The tests of an order to prove a batch one after the other: what each answer says of the definition's outcome.
use Prim.Native.Nat.{ℕ, ◌+◌, ◌*◌, ◌≤◌, ◌<◌}
use mathlib.Core.Path.{◌≡◌, sym, ap, ◌∙◌}
use mathlib.Core.Bool.{not}
use mathlib.Core.List.{List, ◌++◌, map, zip_with}
use lib.ListN.{length, replicate}
use Rattle.batch_definition.specs.Batch.{batch_coefficients_test, batch_coins_test, batch_input_tests, batch_layout, batch_out_tests, batch_range_test, batch_rules, batch_test, batch_words, sum_of}
use Rattle.definition.specs.Block.{block_count}
use Rattle.definition.specs.Field.{word_count}
use Rattle.definition.specs.Layout.{Kind, coin_kinds, layout, message}
use Rattle.definition.specs.Lists.{first_true}
use Rattle.definition.specs.Prove.{output_test}
use Rattle.definition.specs.Reading.{out_of_range}
use Rattle.definition.specs.Sheet.{Sheet, edition1, sheet_of}
use Rattle.definition.specs.Verdict.{Outcome, accepted, refused, refuse_at, ◌then◌}
use Rattle.layouts.specs.Levels.{words_for}
use Rattle.batches.proofs.ProverTests.{coins_long}
use Rattle.batch_sheet.specs.Rules.{refusal_of}
use Rattle.input_tests.specs.OneByOne.{agree, clear, differ, enough, found, short}
use Rattle.std.specs.Prelude.{Some, None}
use Rattle.outcome.specs.declared.Outcome.{Outcome as Answered}
use Rattle.outcome.specs.declared.Outcome.TheVariants.{Accepted, Refused}
use Rattle.outcome.specs.Meaning.{Found, outcome_of, place_of}

-- a test that passes, and the tests after it
past : {test o next : Outcome} → test ≡ accepted → o ≡ next → o ≡ (test then next)
unfolding ◌then◌
past {next = next} e q = q ∙ ap (λ (t : Outcome). t then next) (sym e)

-- a test made by one function
refuses : (r : Answered) {test : Outcome} {number place : ℕ} (next : Outcome) → outcome_of r ≡ test → r ≡ Refused number place → refused number place ≡ (test then next)
unfolding outcome_of ◌then◌
refuses r next e h = ap (λ (t : Outcome). t then next) (sym (ap outcome_of h) ∙ e)

lets_pass : (r : Answered) {test : Outcome} → outcome_of r ≡ test → r ≡ Accepted → test ≡ accepted
unfolding outcome_of
lets_pass r e h = sym e ∙ ap outcome_of h

module _ (w bounds f coins output : List ℕ) where
  abbrev h : Sheet
  h = sheet_of edition1 w

  abbrev N : ℕ
  N = length bounds

  abbrev ks : List Kind
  ks = coin_kinds (batch_layout (sheet_of edition1 w) (length bounds))

  abbrev tests : Outcome
  tests = batch_input_tests (sheet_of edition1 w) bounds f coins output

  pub rule_broken : {r : Found} {place : ℕ} → place_of r ≡ first_true 0 (map not (batch_rules (sheet_of edition1 w) (length bounds) bounds)) → r ≡ Some place → refused 15 place ≡ tests
  unfolding batch_input_tests
  rule_broken {r} e q = found 15 _ (refusal_of h N bounds (place_of r) e) q

  module _ (ruled : batch_test (sheet_of edition1 w) (length bounds) bounds ≡ accepted) where
    pub other_coefficients : {n : ℕ} → n ≡ word_count (sheet_of edition1 w).spelling (sum_of bounds) → (length f ≡ n → ⊥) → refused 10 1 ≡ tests
    unfolding batch_input_tests batch_coefficients_test
    other_coefficients is other = past ruled (differ 10 1 (length f) (word_count h.spelling (sum_of bounds)) _ (λ e. other (e ∙ sym is)))

    module _ (right : length f ≡ word_count (sheet_of edition1 w).spelling (sum_of bounds)) where
      pub other_coins : {due : ℕ} → due ≡ length (coin_kinds (layout (sheet_of edition1 w))) + words_for (sheet_of edition1 w) 1 → (length coins ≡ due → ⊥) → refused 10 2 ≡ tests
      unfolding batch_input_tests batch_coefficients_test batch_coins_test
      other_coins is other =
          past ruled (agree 10 1 (length f) (word_count h.spelling (sum_of bounds)) right (differ 10 2 (length coins) (length ks) _ (λ e. other (e ∙ coins_long h N ∙ sym is))))

      module _ (full : length coins ≡ length (coin_kinds (layout (sheet_of edition1 w))) + words_for (sheet_of edition1 w) 1) where
        from_range : {o : Outcome} →
            o ≡ (batch_range_test h (sum_of bounds) ks (f ++ coins) then batch_out_tests h ks coins then output_test (block_count (batch_words h N)) (512 * block_count (batch_words h N)) (length output)) →
            o ≡ tests
        unfolding batch_input_tests batch_coefficients_test batch_coins_test
        from_range e = past ruled (agree 10 1 (length f) (word_count h.spelling (sum_of bounds)) right (agree 10 2 (length coins) (length ks) (full ∙ sym (coins_long h N)) e))

        module _ (range : Found) (searched : (count : ℕ) →
            place_of range ≡ first_true 0 (zip_with (out_of_range (sheet_of edition1 w)) (replicate (length f) message ++ coin_kinds (batch_layout (sheet_of edition1 w) count)) (f ++ coins))) where
          ranged : refuse_at 5 (place_of range) ≡ batch_range_test h (sum_of bounds) ks (f ++ coins)
          unfolding batch_range_test
          ranged = ap (refuse_at 5) (searched N) ∙ ap (λ (n : ℕ). refuse_at 5 (first_true 0 (zip_with (out_of_range h) (replicate n message ++ ks) (f ++ coins)))) right

          pub out_of_range_lem : {place : ℕ} → range ≡ Some place → refused 5 place ≡ tests
          out_of_range_lem q = from_range (found 5 {r = range} _ ranged q)

          module _ (in_range : range ≡ None) (outs : Answered) (tested : (count : ℕ) → outcome_of outs ≡ batch_out_tests (sheet_of edition1 w) (coin_kinds (batch_layout (sheet_of edition1 w) count)) coins) where
            pub out_coins_refused : {number place : ℕ} → outs ≡ Refused number place → refused number place ≡ tests
            out_coins_refused q = from_range (clear 5 {r = range} ranged in_range (refuses outs _ (tested N) q))

            module _ (passed : outs ≡ Accepted) {blocks : ℕ} (is : blocks ≡ block_count (batch_words (sheet_of edition1 w) (length bounds))) {room : ℕ} (has : length output ≡ room) where
              with_output : {o : Outcome} → o ≡ output_test blocks (512 * blocks) room → o ≡ tests
              with_output e = from_range (clear 5 {r = range} ranged in_range (past (lets_pass outs (tested N) passed) (e ∙ (λ i. output_test (is i) (512 * is i) (sym has i)))))

              pub few_bytes : room < 512 * blocks → refused 11 blocks ≡ tests
              few_bytes l = with_output (short blocks (512 * blocks) room l)

              pub proves : 512 * blocks ≤ room → accepted ≡ tests
              proves l = with_output (enough blocks (512 * blocks) room l)
