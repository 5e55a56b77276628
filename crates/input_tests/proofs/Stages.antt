-- The tests of an order one after the other: what each answer says of the definition's outcome.
use Prim.Native.Nat.{ℕ, ◌*◌, ◌≤◌, ◌<◌}
use native.Mathlib.Omega.{arith}
use mathlib.Core.Path.{◌≡◌, refl, sym, ap, ◌∙◌}
use mathlib.Core.Bool.{not}
use mathlib.Core.List.{List, [], ◌++◌}
use lib.Dec.{eqb}
use lib.ListN.{length, get_or}
use borrow.Author.Tests.{eq-eqb, ne_eqb, lt-ltb, le-ltb}
use Rattle.layouts.specs.Tests.{equal_passes, then_passes}
use Rattle.definition.specs.Block.{block_count}
use Rattle.definition.specs.Deciding.{equal_test, out_test, out_tests}
use Rattle.definition.specs.Field.{spelling_of, word_count}
use Rattle.definition.specs.Layout.{coin_kinds, layout, words_due}
use Rattle.definition.specs.Prove.{coefficients_test, coin_domain_test, coin_equal_test, coins_test, encode_tests, input_range_test, output_test, prove_tests, sheet_length_test}
use Rattle.definition.specs.Reading.{sheet_test}
use Rattle.definition.specs.Sheet.{Edition, sheet_length, sheet_of}
use Rattle.definition.specs.Verdict.{Outcome, accepted, refused, refuse_at, refuse_if, ◌then◌}
use Rattle.input_tests.specs.OneByOne.{after_both, agree, both_refused, clear, differ, enough, found, short}
use Rattle.std.specs.Prelude.{Some, None}
use Rattle.outcome.specs.declared.Outcome.{Outcome as Answered}
use Rattle.outcome.specs.declared.Outcome.TheVariants.{Accepted, Refused}
use Rattle.outcome.specs.Meaning.{Found, outcome_of, place_of}

-- ---- the sheet's tests, and the tests after them

module _ (ed : Edition) (w : List ℕ) where
  pub other_length_lem : {n : ℕ} → n ≡ sheet_length ed → (length w ≡ n → ⊥) → refused 10 0 ≡ (sheet_length_test ed w then sheet_test ed w)
  unfolding sheet_length_test
  other_length_lem q h = differ 10 0 (length w) (sheet_length ed) (sheet_test ed w) (λ e. h (e ∙ sym q))

  pub all_words : {n : ℕ} {o : Outcome} → n ≡ sheet_length ed → length w ≡ n → o ≡ sheet_test ed w → o ≡ (sheet_length_test ed w then sheet_test ed w)
  unfolding sheet_length_test
  all_words q h e = agree 10 0 (length w) (sheet_length ed) (h ∙ q) e

-- ---- prove's tests after the sheet's

-- the tests of out coins on a coin list are prove's 7 and 14
pub coin_tests : (ed : Edition) (w coins : List ℕ) →
    out_tests (sheet_of ed w) 0 (coin_kinds (layout (sheet_of ed w))) coins ≡ (coin_domain_test (sheet_of ed w) coins then coin_equal_test (sheet_of ed w) coins)
unfolding out_tests out_test equal_test coin_domain_test coin_equal_test
coin_tests ed w coins = refl

module _ (ed : Edition) (w f coins output : List ℕ) where
  pub other_coefficients : {n : ℕ} → n ≡ word_count (spelling_of (get_or w 0 0)) (get_or w 2 0) → (length f ≡ n → ⊥) → refused 10 1 ≡ prove_tests ed (sheet_of ed w) f coins output
  unfolding prove_tests coefficients_test sheet_of
  other_coefficients is h = differ 10 1 (length f) (word_count (spelling_of (get_or w 0 0)) (get_or w 2 0)) _ (λ e. h (e ∙ sym is))

  module _ (right : length f ≡ word_count (spelling_of (get_or w 0 0)) (get_or w 2 0)) where
    pub other_coins : {due : ℕ} → due ≡ length (coin_kinds (layout (sheet_of ed w))) → (length coins ≡ due → ⊥) → refused 10 2 ≡ prove_tests ed (sheet_of ed w) f coins output
    unfolding prove_tests coefficients_test coins_test sheet_of
    other_coins {due} is h = agree 10 1 (length f) (word_count (spelling_of (get_or w 0 0)) (get_or w 2 0)) right (differ 10 2 (length coins) _ _ (λ e. h (e ∙ sym is)))

    module _ (full : length coins ≡ length (coin_kinds (layout (sheet_of ed w)))) where
      from_range : {o : Outcome} →
          o ≡ (input_range_test (sheet_of ed w) (coin_kinds (layout (sheet_of ed w))) (f ++ coins) then coin_domain_test (sheet_of ed w) coins then coin_equal_test (sheet_of ed w) coins
          then output_test (block_count (words_due ed (sheet_of ed w))) (512 * block_count (words_due ed (sheet_of ed w))) (length output)) →
          o ≡ prove_tests ed (sheet_of ed w) f coins output
      unfolding prove_tests coefficients_test coins_test sheet_of
      from_range e = agree 10 1 (length f) (word_count (spelling_of (get_or w 0 0)) (get_or w 2 0)) right (agree 10 2 (length coins) _ full e)

      module _ {range : Found} (ranged : refuse_at 5 (place_of range) ≡ input_range_test (sheet_of ed w) (coin_kinds (layout (sheet_of ed w))) (f ++ coins)) where
        pub out_of_range_lem : {place : ℕ} → range ≡ Some place → refused 5 place ≡ prove_tests ed (sheet_of ed w) f coins output
        out_of_range_lem h = from_range (found 5 _ ranged h)

        module _ (in_range : range ≡ None) {outs : Answered} (tested : outcome_of outs ≡ (coin_domain_test (sheet_of ed w) coins then coin_equal_test (sheet_of ed w) coins)) where
          pub out_coins_refused : {number place : ℕ} → outs ≡ Refused number place → refused number place ≡ prove_tests ed (sheet_of ed w) f coins output
          out_coins_refused h = from_range (clear 5 ranged in_range (both_refused (coin_domain_test (sheet_of ed w) coins) (coin_equal_test (sheet_of ed w) coins) tested _ h))

          module _ (passed : outs ≡ Accepted) {blocks : ℕ} (is : blocks ≡ block_count (words_due ed (sheet_of ed w))) {room : ℕ} (has : length output ≡ room) where
            with_output : {o : Outcome} → o ≡ output_test blocks (512 * blocks) room → o ≡ prove_tests ed (sheet_of ed w) f coins output
            with_output e = from_range (clear 5 ranged in_range (after_both (coin_domain_test (sheet_of ed w) coins) (coin_equal_test (sheet_of ed w) coins) tested passed (e ∙ (λ i. output_test (is i) (512 * is i) (sym has i)))))

            pub few_bytes : room < 512 * blocks → refused 11 blocks ≡ prove_tests ed (sheet_of ed w) f coins output
            few_bytes h = with_output (short blocks (512 * blocks) room h)

            pub proves : 512 * blocks ≤ room → accepted ≡ prove_tests ed (sheet_of ed w) f coins output
            proves h = with_output (enough blocks (512 * blocks) room h)

-- ---- encode's tests after the sheet's

module _ (ed : Edition) (w f output : List ℕ) where
  pub other_count : {n : ℕ} → n ≡ word_count (spelling_of (get_or w 0 0)) (get_or w 2 0) → (length f ≡ n → ⊥) → refused 10 1 ≡ encode_tests (sheet_of ed w) f output
  unfolding encode_tests coefficients_test sheet_of
  other_count is h = differ 10 1 (length f) (word_count (spelling_of (get_or w 0 0)) (get_or w 2 0)) _ (λ e. h (e ∙ sym is))

  module _ (right : length f ≡ word_count (spelling_of (get_or w 0 0)) (get_or w 2 0)) {range : Found} (ranged : refuse_at 5 (place_of range) ≡ input_range_test (sheet_of ed w) [] f) where
    pub no_element : {place : ℕ} → range ≡ Some place → refused 5 place ≡ encode_tests (sheet_of ed w) f output
    unfolding encode_tests coefficients_test sheet_of
    no_element h = agree 10 1 (length f) (word_count (spelling_of (get_or w 0 0)) (get_or w 2 0)) right (found 5 _ ranged h)

    module _ (elements : range ≡ None) {room : ℕ} (has : length output ≡ room) {size : ℕ} (is : size ≡ word_count (spelling_of (get_or w 0 0)) (get_or w 1 0)) where
      with_words : {o : Outcome} → o ≡ output_test size size room → o ≡ encode_tests (sheet_of ed w) f output
      unfolding encode_tests coefficients_test sheet_of
      with_words e = agree 10 1 (length f) (word_count (spelling_of (get_or w 0 0)) (get_or w 2 0)) right (clear 5 ranged elements (e ∙ (λ i. output_test (is i) (is i) (sym has i))))

      pub few_words : room < size → refused 11 size ≡ encode_tests (sheet_of ed w) f output
      few_words h = with_words (short size size room h)

      pub encodes : size ≤ room → accepted ≡ encode_tests (sheet_of ed w) f output
      encodes h = with_words (enough size size room h)
