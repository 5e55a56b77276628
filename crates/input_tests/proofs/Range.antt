-- Refusal 5 of an order: the coefficients by their numbers, then the coins by theirs after all coefficients.
use Prim.Native.Nat.{ℕ, ◌+◌, ◌≤◌}
use native.Mathlib.Omega.{arith}
use mathlib.Core.Path.{◌≡◌, refl, sym, ap, ◌∙◌}
use mathlib.Core.List.{List, [], ◌++◌, append-nil, map, zip_with}
use mathlib.Core.Option.{Option, none, some}
use lib.Dec.{leb}
use lib.ListN.{length, get_or}
use Rattle.layouts.proofs.DueSizes.{coins_most}
use Rattle.layouts.specs.SheetRules.{front_words}
use Rattle.layouts.specs.Spellings.{count_most}
use Rattle.definition.specs.Field.{prime_of, spelling_of, word_count}
use Rattle.definition.specs.Layout.{Kind, coin_kinds, layout, limit, message}
use Rattle.definition.specs.Lists.{first_true}
use Rattle.definition.specs.Prove.{input_range_test}
use Rattle.definition.specs.Reading.{out_of_range, sheet_test}
use Rattle.definition.specs.Sheet.{Edition, sheet_length, sheet_of}
use Rattle.definition.specs.Verdict.{accepted, refuse_at}
use Rattle.list_laws.specs.Lists.{zip_short}
use Rattle.list_laws.specs.First.{first_below}
use Rattle.input_tests.specs.Places as places

module _ (ed : Edition) (w f : List ℕ) (right : length f ≡ word_count (spelling_of (get_or w 0 0)) (get_or w 2 0)) where
  module _ (ks : List Kind) (coins : List ℕ) where
    abbrev first_coefficient : Option ℕ
    first_coefficient = first_true 0 (map (leb (prime_of (get_or w 0 0))) f)

    abbrev first_coin : Option ℕ
    first_coin = first_true 0 (zip_with (out_of_range (sheet_of ed w)) ks coins)

    pub in_coefficients : (place : ℕ) → some place ≡ first_coefficient → refuse_at 5 (some place) ≡ input_range_test (sheet_of ed w) ks (f ++ coins)
    unfolding input_range_test sheet_of limit
    in_coefficients place e = ap (refuse_at 5) (places.in_front (sheet_of ed w) message refl ks f coins (word_count (spelling_of (get_or w 0 0)) (get_or w 2 0)) right place e)

    pub in_coins : (place : ℕ) → none ≡ first_coefficient → some place ≡ first_coin → refuse_at 5 (some (length f + place)) ≡ input_range_test (sheet_of ed w) ks (f ++ coins)
    unfolding input_range_test sheet_of limit
    in_coins place e e' = ap (refuse_at 5) (places.in_others (sheet_of ed w) message refl ks f coins (word_count (spelling_of (get_or w 0 0)) (get_or w 2 0)) right place e e')

    pub in_range : none ≡ first_coefficient → none ≡ first_coin → refuse_at 5 none ≡ input_range_test (sheet_of ed w) ks (f ++ coins)
    unfolding input_range_test sheet_of limit
    in_range e e' = ap (refuse_at 5) (places.in_neither (sheet_of ed w) message refl ks f coins (word_count (spelling_of (get_or w 0 0)) (get_or w 2 0)) right e e')

  -- the coefficients alone
  pub coefficients_test : {o : Option ℕ} → o ≡ first_true 0 (map (leb (prime_of (get_or w 0 0))) f) → refuse_at 5 o ≡ input_range_test (sheet_of ed w) [] f
  unfolding first_true zip_with
  coefficients_test {o} e = go o e ∙ ap (input_range_test (sheet_of ed w) []) (append-nil f)
    where
      go : (found : Option ℕ) → found ≡ first_true 0 (map (leb (prime_of (get_or w 0 0))) f) → refuse_at 5 found ≡ input_range_test (sheet_of ed w) [] (f ++ [])
      go none q = in_range [] [] q refl
      go (some place) q = in_coefficients [] [] place q

  -- the place of a coin after all coefficients is a small number
  pub place_small : (coins : List ℕ) (place : ℕ) → sheet_length ed ≤ length w → sheet_test ed w ≡ accepted → length coins ≡ length (coin_kinds (layout (sheet_of ed w))) →
      some place ≡ first_true 0 (zip_with (out_of_range (sheet_of ed w)) (coin_kinds (layout (sheet_of ed w))) coins) → length f + place ≤ 16702
  place_small coins place long passed full e =
      let test = out_of_range (sheet_of ed w) in
      let ks = coin_kinds (layout (sheet_of ed w)) in
      omega (arith, right, front_words ed w passed, count_most (spelling_of (get_or w 0 0)) (get_or w 2 0), full, coins_most ed w long passed, first_below 0 (zip_with test ks coins) place (sym e), zip_short test ks coins)
