-- What the premises say, word by word: a sheet of the edition's length, the words of d0 coefficients, and coins each of which passes refusals 5, 7 and 14.
use Rattle.std.specs.Prelude.{ℕ, ◌+◌, ◌≤◌, ◌<◌, List, ◌++◌, ◌≡◌, take, drop, replicate}
use Rattle.std.proofs.Common.{arith, ◌∙◌, drop_at, take_at}
use Rattle.std.proofs.Math.Option.{none}
use Rattle.std.proofs.Math.Path.{sym, ap, subst}
use Rattle.std.proofs.Math.ListN.{length, length-append}
use Rattle.std.proofs.lemmas.List.{length-replicate}
use borrow.Author.Tests.{leb-false}
use Rattle.definition.specs.Deciding.{out_in_domain, repeated_outs}
use Rattle.definition.specs.Field.{begun_by, elements_in}
use Rattle.definition.specs.Layout.{Kind, coin, coin_kinds, layout, limit, message, rest_layout}
use Rattle.definition.specs.Prove.{coefficients_test, coin_domain_test, coin_equal_test, coins_test, input_range_test, sheet_length_test}
use Rattle.definition.specs.Reading.{out_of_range}
use Rattle.definition.specs.Sheet.{Edition, first_level, later_levels, sheet_length, sheet_of}
use Rattle.definition.specs.Verdict.{accepted}
use Rattle.list_laws.specs.All.{All, all_map}
use Rattle.layouts.specs.EachWord.{Each, InRange, Outside, each_append_at, each_false, each_replicate}
use Rattle.layouts.proofs.LayoutFacts.{coin_runs, layout_coins}
use Rattle.layouts.specs.KindsAfter.{CoinRuns}
use Rattle.layouts.specs.Levels.{sheet_field, words_for}
use Rattle.layouts.specs.Spellings.{begun_drop, begun_length, read_length}
use Rattle.layouts.specs.Tests.{all_false, at_passes, equal_passes}
use Rattle.completeness.specs.EqualOuts.{NoRepeat}
use Rattle.completeness.specs.Numbered.{Allowed}

pub sheet_long : (ed : Edition) (w : List ℕ) → sheet_length_test ed w ≡ accepted → length w ≡ sheet_length ed
unfolding sheet_length_test
sheet_long ed w e = equal_passes 10 0 (length w) (sheet_length ed) e

-- so all its words are there
pub sheet_enough : (ed : Edition) (w : List ℕ) → length w ≡ sheet_length ed → sheet_length ed ≤ length w
sheet_enough ed w e = omega arith

module _ {ed : Edition} {w f coins : List ℕ} (ok : Allowed ed w f coins) where
  pub allowed_long : length w ≡ sheet_length ed
  allowed_long = sheet_long ed w ok.words

  pub allowed_enough : sheet_length ed ≤ length w
  allowed_enough = sheet_enough ed w allowed_long

  pub allowed_words : length f ≡ words_for (sheet_of ed w) (sheet_of ed w).degree
  unfolding coefficients_test
  allowed_words = equal_passes 10 1 (length f) (words_for (sheet_of ed w) (sheet_of ed w).degree) ok.coefficients

  -- d0 coefficients
  pub allowed_degree : length (elements_in (sheet_of ed w).spelling f) ≡ (sheet_of ed w).degree
  allowed_degree = read_length (sheet_of ed w).spelling (sheet_of ed w).degree f allowed_words

  pub allowed_count : length coins ≡ length (coin_kinds (layout (sheet_of ed w)))
  unfolding coins_test
  allowed_count = equal_passes 10 2 (length coins) (length (coin_kinds (layout (sheet_of ed w)))) ok.full

  -- each word of the coefficients and each of the coins is in range
  allowed_inside : Each (InRange (sheet_of ed w)) (replicate (words_for (sheet_of ed w) (sheet_of ed w).degree) message) f
      × Each (InRange (sheet_of ed w)) (coin_kinds (layout (sheet_of ed w))) coins
  unfolding input_range_test
  allowed_inside =
      let h = sheet_of ed w in
      let ks = coin_kinds (layout h) in
      let n = words_for h h.degree in
      let count : length (f ++ coins) ≡ length (replicate n message ++ ks) =
      length-append f coins ∙ (λ i. allowed_words i + allowed_count i)
      ∙ sym (length-append (replicate n message) ks ∙ ap (λ (m : ℕ). m + length ks) (length-replicate n message)) in
      let inside = each_false (out_of_range h) 0 (replicate n message ++ ks) (f ++ coins) count (at_passes 5 _ ok.range) in
      let both = each_append_at (InRange h) n (replicate n message) ks (f ++ coins) (length-replicate n message) inside in
      (subst (Each (InRange h) (replicate n message)) (take_at f coins n allowed_words) both.0, subst (Each (InRange h) ks) (drop_at f coins n allowed_words) both.1)

  -- each word of a coefficient is below p, so each coefficient is an element
  pub allowed_elements : All (λ c. c < (sheet_of ed w).prime) f
  unfolding out_of_range limit
  allowed_elements =
      all_map f (each_replicate (InRange (sheet_of ed w)) (words_for (sheet_of ed w) (sheet_of ed w).degree) message f allowed_inside.0).1 (λ c e. leb-false (sheet_of ed w).prime c e)

  -- each coin passes refusals 5 and 7
  allowed_coins : Each (InRange (sheet_of ed w)) (coin_kinds (layout (sheet_of ed w))) coins
  allowed_coins = allowed_inside.1

  allowed_outside : Each (Outside (sheet_of ed w)) (coin_kinds (layout (sheet_of ed w))) (begun_by (sheet_of ed w).spelling coins)
  unfolding coin_domain_test
  allowed_outside =
      let h = sheet_of ed w in
      each_false (out_in_domain h.spelling h) 0 (coin_kinds (layout h)) (begun_by h.spelling coins) (begun_length h.spelling coins ∙ allowed_count) (at_passes 7 _ ok.outside)

  -- fold coin 0, and the coins after it
  split_coins : {A : Type 0} (R : Kind → A → Type 0) (xs : List A) → Each R (coin_kinds (layout (sheet_of ed w))) xs →
      Each R (replicate (words_for (sheet_of ed w) 1) coin) (take (words_for (sheet_of ed w) 1) xs)
      × Each R (coin_kinds (rest_layout (sheet_of ed w).spelling (sheet_of ed w).out_coins (first_level (sheet_of ed w)) (later_levels (sheet_of ed w)))) (drop (words_for (sheet_of ed w) 1) xs)
  split_coins R xs e =
      let h = sheet_of ed w in
      each_append_at R (words_for h 1) (replicate (words_for h 1) coin) _ xs (length-replicate (words_for h 1) coin) (subst (λ (ks : List Kind). Each R ks xs) (layout_coins h) e)

  pub allowed_first : Each (InRange (sheet_of ed w)) (replicate (words_for (sheet_of ed w) 1) coin) (take (words_for (sheet_of ed w) 1) coins)
  allowed_first = (split_coins (InRange (sheet_of ed w)) coins allowed_coins).0

  pub allowed_rounds : CoinRuns (InRange (sheet_of ed w)) (sheet_of ed w).spelling (sheet_of ed w).out_coins (first_level (sheet_of ed w)) (later_levels (sheet_of ed w)) (drop (words_for (sheet_of ed w) 1) coins)
  allowed_rounds =
      let h = sheet_of ed w in
      coin_runs (InRange h) h.spelling h.out_coins (first_level h) (later_levels h) (drop (words_for h 1) coins) (split_coins (InRange h) coins allowed_coins).1

  pub allowed_off : CoinRuns (Outside (sheet_of ed w)) (sheet_of ed w).spelling (sheet_of ed w).out_coins (first_level (sheet_of ed w)) (later_levels (sheet_of ed w))
      (begun_by (sheet_of ed w).spelling (drop (words_for (sheet_of ed w) 1) coins))
  allowed_off =
      let h = sheet_of ed w in
      subst (CoinRuns (Outside h) h.spelling h.out_coins (first_level h) (later_levels h)) (begun_drop h.spelling (words_for h 1) coins)
      (coin_runs (Outside h) h.spelling h.out_coins (first_level h) (later_levels h) (drop (words_for h 1) (begun_by h.spelling coins))
      (split_coins (Outside h) (begun_by h.spelling coins) allowed_outside).1)

  -- no two out coins of a round are equal
  pub allowed_apart : NoRepeat (sheet_field (sheet_of ed w)) none (coin_kinds (layout (sheet_of ed w))) (begun_by (sheet_of ed w).spelling coins)
  unfolding coin_equal_test
  allowed_apart =
      let h = sheet_of ed w in
      all_false 14 0 (repeated_outs (sheet_field h) none (coin_kinds (layout h)) (begun_by h.spelling coins)) ok.apart

  pub allowed_some : words_for (sheet_of ed w) 1 ≤ length coins
  allowed_some =
      let h = sheet_of ed w in
      omega (
        arith,
        allowed_count,
        ap length (layout_coins h),
        length-append (replicate (words_for h 1) coin) (coin_kinds (rest_layout h.spelling h.out_coins (first_level h) (later_levels h))),
        length-replicate (words_for h 1) coin,
      )
