-- A batch's coins: the words of r, then the coins of a plain run.
use Prim.Native.Nat.{ℕ, ◌+◌, ◌≤◌, ◌<◌}
use native.Mathlib.Omega.{arith}
use mathlib.Core.Path.{◌≡◌, refl, sym, ap, ◌∙◌}
use mathlib.Core.List.{List, ◌++◌, map, zip_with}
use mathlib.Core.Option.{Option, none, some}
use lib.Dec.{leb}
use lib.ListN.{length, take, drop, replicate, length-drop, take-append-drop}
use lib.Seq.{length-take-le}
use Rattle.batch_definition.specs.Batch.{batch_layout, batch_out_tests}
use Rattle.definition.specs.Layout.{Kind, coin, coin_kinds, layout, limit}
use Rattle.definition.specs.Lists.{first_true}
use Rattle.definition.specs.Prove.{coin_domain_test, coin_equal_test}
use Rattle.definition.specs.Reading.{out_of_range, sheet_test}
use Rattle.definition.specs.Sheet.{edition1, sheet_length, sheet_of, Sheet}
use Rattle.definition.specs.Verdict.{accepted, refused, ◌then◌}
use Rattle.list_laws.specs.First.{first_below}
use Rattle.list_laws.specs.Lists.{zip_short}
use Rattle.layouts.proofs.DueSizes.{coins_most}
use Rattle.layouts.specs.Levels.{words_for}
use Rattle.layouts.specs.Spellings.{count_one}
use Rattle.batches.proofs.AllowedBatches.{batch_coins}
use Rattle.batches.specs.Batched.{higher}
use Rattle.batches.proofs.ProverTests.{out_place, outs_after}
use Rattle.input_tests.specs.Places.{in_front, in_neither, in_others}
use Rattle.outcome.specs.declared.Outcome.{Outcome as Answered}
use Rattle.outcome.specs.declared.Outcome.TheVariants.{Accepted, Refused}
use Rattle.outcome.specs.Meaning.{outcome_of}

module _ (w coins : List ℕ) (full : length coins ≡ length (coin_kinds (layout (sheet_of edition1 w))) + words_for (sheet_of edition1 w) 1) where
  abbrev h : Sheet
  h = sheet_of edition1 w

  abbrev o : ℕ
  o = words_for (sheet_of edition1 w) 1

  abbrev ks : List Kind
  ks = coin_kinds (layout (sheet_of edition1 w))

  pub enough : {width : ℕ} → width ≡ words_for (sheet_of edition1 w) 1 → width ≤ length coins
  enough e = omega (arith, e, full)

  pub others_long : {width : ℕ} → width ≡ words_for (sheet_of edition1 w) 1 → length (drop width coins) ≡ length (coin_kinds (layout (sheet_of edition1 w)))
  others_long {width} e = length-drop width coins ∙ omega (arith, e, full)

  module _ (long : sheet_length edition1 ≤ length w) (passed : sheet_test edition1 w ≡ accepted) where
    pub coins_few : length coins ≤ 322
    coins_few = omega (arith, full, coins_most edition1 w long passed, (count_one h.spelling).1)

    -- the place of a coin word is a small number
    found_small : {place : ℕ} (kinds : List Kind) (words : List ℕ) → length words ≤ length coins → some place ≡ first_true 0 (zip_with (out_of_range h) kinds words) → place ≤ 322
    found_small {place} kinds words l e =
        omega (arith, l, coins_few, first_below 0 (zip_with (out_of_range h) kinds words) place (sym e), zip_short (out_of_range h) kinds words)

    pub coin_place : {place : ℕ} (count : ℕ) → some place ≡ first_true 0 (zip_with (out_of_range (sheet_of edition1 w)) (coin_kinds (batch_layout (sheet_of edition1 w) count)) coins) → place ≤ 322
    coin_place count e = found_small (coin_kinds (batch_layout h count)) coins (omega arith) e

    pub other_place : {place : ℕ} (width : ℕ) → some place ≡ first_true 0 (zip_with (out_of_range (sheet_of edition1 w)) (coin_kinds (layout (sheet_of edition1 w))) (drop width coins)) → place ≤ 322
    other_place width e = found_small ks (drop width coins) (omega (arith, length-drop width coins)) e

  -- ---- refusal 5: the words of r, the others, or none
  module _ {width : ℕ} (is : width ≡ words_for (sheet_of edition1 w) 1) (count : ℕ) where
    abbrev first_of_r : Option ℕ
    first_of_r = first_true 0 (map (leb (sheet_of edition1 w).prime) (take width coins))

    abbrev first_other : Option ℕ
    first_other = first_true 0 (zip_with (out_of_range (sheet_of edition1 w)) ks (drop width coins))

    long_r : length (take width coins) ≡ width
    long_r = length-take-le width coins (enough is)

    whole : {p : Option ℕ} → p ≡ first_true 0 (zip_with (out_of_range h) (replicate width coin ++ ks) (take width coins ++ drop width coins)) →
        p ≡ first_true 0 (zip_with (out_of_range h) (coin_kinds (batch_layout h count)) coins)
    whole e =
        e ∙ ap (λ (l : List ℕ). first_true 0 (zip_with (out_of_range h) (replicate width coin ++ ks) l)) (take-append-drop width coins)
        ∙ ap (λ (n : ℕ). first_true 0 (zip_with (out_of_range h) (replicate n coin ++ ks) coins)) is
        ∙ ap (λ (l : List Kind). first_true 0 (zip_with (out_of_range h) l coins)) (sym (batch_coins h count))

    pub in_combination : (place : ℕ) → some place ≡ first_of_r → some place ≡ first_true 0 (zip_with (out_of_range (sheet_of edition1 w)) (coin_kinds (batch_layout (sheet_of edition1 w) count)) coins)
    unfolding limit
    in_combination place e = whole (in_front h coin refl ks (take width coins) (drop width coins) width long_r place e)

    pub in_coins : (place : ℕ) → none ≡ first_of_r → some place ≡ first_other → some (width + place) ≡ first_true 0 (zip_with (out_of_range (sheet_of edition1 w)) (coin_kinds (batch_layout (sheet_of edition1 w) count)) coins)
    unfolding limit
    in_coins place e e' = ap {B = Option ℕ} (λ (n : ℕ). some (n + place)) (sym long_r) ∙ whole (in_others h coin refl ks (take width coins) (drop width coins) width long_r place e e')

    pub in_range : none ≡ first_of_r → none ≡ first_other → none ≡ first_true 0 (zip_with (out_of_range (sheet_of edition1 w)) (coin_kinds (batch_layout (sheet_of edition1 w) count)) coins)
    unfolding limit
    in_range e e' = whole (in_neither h coin refl ks (take width coins) (drop width coins) width long_r e e')

  -- ---- refusals 7 and 14
  module _ {width : ℕ} (is : width ≡ words_for (sheet_of edition1 w) 1) (r : Answered) (tested : outcome_of r ≡ (coin_domain_test (sheet_of edition1 w) (drop width coins) then coin_equal_test (sheet_of edition1 w) (drop width coins))) where
    as_plain : (count : ℕ) → higher width (outcome_of r) ≡ batch_out_tests (sheet_of edition1 w) (coin_kinds (batch_layout (sheet_of edition1 w) count)) coins
    as_plain count =
        ap (higher width) tested
        ∙ ap (λ (n : ℕ). higher n (coin_domain_test h (drop n coins) then coin_equal_test h (drop n coins))) is
        ∙ sym (outs_after h count coins (enough refl))

    pub outs_place : {number place : ℕ} → r ≡ Refused number place → place < length coins
    unfolding outcome_of
    outs_place {number} {place} e = omega (arith, out_place h (drop width coins) number place (sym tested ∙ ap outcome_of e), length-drop width coins)

    pub outs_refused : {number place : ℕ} (count : ℕ) → r ≡ Refused number place → refused number (place + width) ≡ batch_out_tests (sheet_of edition1 w) (coin_kinds (batch_layout (sheet_of edition1 w) count)) coins
    unfolding outcome_of higher
    outs_refused count e = sym (ap (λ (x : Answered). higher width (outcome_of x)) e) ∙ as_plain count

    pub outs_passed : (count : ℕ) → r ≡ Accepted → accepted ≡ batch_out_tests (sheet_of edition1 w) (coin_kinds (batch_layout (sheet_of edition1 w) count)) coins
    unfolding outcome_of higher
    outs_passed count e = sym (ap (λ (x : Answered). higher width (outcome_of x)) e) ∙ as_plain count
