-- What the premises say, word by word: a sheet of 12 words, bounds from 1 to d0, the coefficients cut by them, and coins each of which passes refusals 5, 7 and 14.
use Rattle.std.specs.Prelude.{ℕ, zero, suc, ◌+◌, ◌*◌, ◌≤◌, ◌<◌, ◌≡◌, refl, take, drop}
use Rattle.std.proofs.Common.{arith, ◌∙◌, length-drop, drop_at, length-take-le, take_all}
use mathlib.Core.List.{List, [], ◌∷◌, ◌++◌, append_assoc, map, zip_with}
use Rattle.std.proofs.Math.Option.{none}
use Rattle.std.proofs.Math.Path.{sym, ap, subst}
use Rattle.std.proofs.Math.ListN.{length, replicate, length-append}
use Rattle.std.proofs.lemmas.List.{length-replicate}
use Rattle.batch_definition.specs.Batch.{batch_coefficients_test, batch_coins_test, batch_layout, batch_out_tests, batch_range_test, cut_by, most_entries, sum_of}
use Rattle.definition.specs.Deciding.{out_in_domain, repeated_outs}
use Rattle.definition.specs.Field.{Spelling, begun_by, elements_in}
use Rattle.definition.specs.Layout.{Kind, coin, coin_kinds, layout, message, rest_layout}
use Rattle.definition.specs.Reading.{out_of_range}
use Rattle.definition.specs.Sheet.{Sheet, edition1, first_level, later_levels, sheet_of}
use Rattle.definition.specs.Verdict.{accepted, refuse_at}
use Rattle.definition.specs.Lists.{first_true}
use Rattle.list_laws.specs.All.{All, all_in_map}
use Rattle.layouts.specs.EachWord.{Each, InRange, Outside, each_append_at, each_false}
use Rattle.layouts.proofs.LayoutFacts.{coin_runs, coins_alone, coins_append, coins_messages, layout_coins}
use Rattle.layouts.specs.KindsAfter.{CoinRuns}
use Rattle.layouts.specs.Levels.{sheet_field, words_for}
use Rattle.layouts.specs.Spellings.{begun_drop, begun_length, count_add, read_length}
use Rattle.layouts.specs.Tests.{all_false, at_passes, equal_passes, then_passes}
use Rattle.completeness.proofs.Allowed.{sheet_enough, sheet_long}
use Rattle.completeness.specs.EqualOuts.{NoRepeat}
use Rattle.batches.specs.BatchRules.{bounds_within, entries_few, tables_few}
use Rattle.batches.specs.Batched.{AllowedBatch}

pub runs : {A : Type 0} (m n : ℕ) (k : A) → replicate (m + n) k ≡ replicate m k ++ replicate n k
runs zero n k = ap (λ (i : ℕ). replicate i k) (let e : 0 + n ≡ n = omega arith in e)
runs (suc m) n k = ap (λ (i : ℕ). replicate i k) (let e : suc m + n ≡ suc (m + n) = omega arith in e) ∙ ap {B = List _} (λ t. k ∷ t) (runs m n k)

-- the coins of a batch: r, and those of a plain run
pub batch_coins : (h : Sheet) (count : ℕ) → coin_kinds (batch_layout h count) ≡ replicate (words_for h 1) coin ++ coin_kinds (layout h)
unfolding batch_layout
batch_coins h count =
    let σ = h.spelling in
    let rest = rest_layout σ h.out_coins (first_level h) (later_levels h) in
    coins_append (replicate (words_for h (count * h.size)) message) (replicate (words_for h 2) coin ++ rest)
    ∙ ap (λ (ks : List Kind). ks ++ coin_kinds (replicate (words_for h 2) coin ++ rest)) (coins_messages (words_for h (count * h.size)))
    ∙ coins_append (replicate (words_for h 2) coin) rest ∙ ap (λ (ks : List Kind). ks ++ coin_kinds rest) (coins_alone (words_for h 2))
    ∙ ap (λ (n : ℕ). replicate n coin ++ coin_kinds rest) (count_add σ 1 1) ∙ ap (λ (ks : List Kind). ks ++ coin_kinds rest) (runs (words_for h 1) (words_for h 1) coin)
    ∙ append_assoc (replicate (words_for h 1) coin) (replicate (words_for h 1) coin) (coin_kinds rest) ∙ ap (λ (ks : List Kind). replicate (words_for h 1) coin ++ ks) (sym (layout_coins h))

-- coefficients cut by bounds
pub cut_lengths : {A : Type 0} (bounds : List ℕ) (f : List A) → length f ≡ sum_of bounds → map length (cut_by bounds f) ≡ bounds
unfolding cut_by sum_of
cut_lengths [] f e = refl
cut_lengths (b ∷ bs) f e = λ i. length-take-le b f (omega arith) i ∷ cut_lengths bs (drop b f) (length-drop b f ∙ omega arith) i

pub cut_count : {A : Type 0} (bounds : List ℕ) (f : List A) → length (cut_by bounds f) ≡ length bounds
unfolding cut_by
cut_count [] f = refl
cut_count (b ∷ bs) f = ap suc (cut_count bs (drop b f))

module _ {w bounds f coins : List ℕ} (ok : AllowedBatch w bounds f coins) where
  abbrev h : Sheet
  h = sheet_of edition1 w

  abbrev N : ℕ
  N = length bounds

  abbrev ks : List Kind
  ks = coin_kinds (batch_layout (sheet_of edition1 w) (length bounds))

  pub batch_long : length w ≡ 12
  batch_long = sheet_long edition1 w ok.words

  pub batch_enough : 12 ≤ length w
  batch_enough = sheet_enough edition1 w batch_long

  pub batch_number : (1 ≤ length bounds) × (length bounds ≤ 8)
  batch_number = tables_few h N bounds ok.bounded

  pub batch_entries : length bounds * (sheet_of edition1 w).size ≤ most_entries (sheet_of edition1 w).spelling
  batch_entries = entries_few h N bounds ok.bounded

  pub batch_bounds : All (λ b. (1 ≤ b) × (b ≤ (sheet_of edition1 w).degree)) bounds
  batch_bounds = subst (All (λ b. (1 ≤ b) × (b ≤ h.degree))) (take_all N bounds (omega arith)) (bounds_within h N bounds ok.bounded)

  abbrev σ : Spelling
  σ = (sheet_of edition1 w).spelling

  pub batch_words_lem : length f ≡ words_for (sheet_of edition1 w) (sum_of bounds)
  unfolding batch_coefficients_test
  batch_words_lem = equal_passes 10 1 (length f) (words_for h (sum_of bounds)) ok.coefficients

  pub batch_sum : length (elements_in (sheet_of edition1 w).spelling f) ≡ sum_of bounds
  batch_sum = read_length σ (sum_of bounds) f batch_words_lem

  -- each polynomial has some coefficients, and no more than d0
  pub cut_bounded : All (λ g. (0 < length g) × (length g ≤ (sheet_of edition1 w).degree)) (cut_by bounds (elements_in (sheet_of edition1 w).spelling f))
  cut_bounded =
      let fs = elements_in σ f in
      all_in_map (λ b. (0 < b) × (b ≤ h.degree)) length (cut_by bounds fs) (subst (All (λ b. (0 < b) × (b ≤ h.degree))) (sym (cut_lengths bounds fs batch_sum)) batch_bounds)

  pub batch_count : length coins ≡ length (coin_kinds (batch_layout (sheet_of edition1 w) (length bounds)))
  unfolding batch_coins_test
  batch_count = equal_passes 10 2 (length coins) (length ks) ok.full

  coins_inside : Each (InRange h) ks coins
  unfolding batch_range_test
  coins_inside =
      let n = words_for h (sum_of bounds) in
      let ms = replicate n message in
      let count : length (f ++ coins) ≡ length (ms ++ ks) =
      length-append f coins ∙ (λ i. batch_words_lem i + batch_count i) ∙ sym (length-append ms ks ∙ ap (λ (m : ℕ). m + length ks) (length-replicate n message)) in
      let inside = each_false (out_of_range h) 0 (ms ++ ks) (f ++ coins) count (at_passes 5 _ ok.range) in
      subst (Each (InRange h) ks) (drop_at f coins n batch_words_lem) (each_append_at (InRange h) n ms ks (f ++ coins) (length-replicate n message) inside).1

  out_passed : (refuse_at 7 (first_true 0 (zip_with (out_in_domain σ h) ks (begun_by σ coins))) ≡ accepted) × (refuse_at 14 (first_true 0 (repeated_outs (sheet_field h) none ks (begun_by σ coins))) ≡ accepted)
  unfolding batch_out_tests
  out_passed = then_passes _ _ ok.outside

  -- r, then the coins of a plain run
  split_coins : {A : Type 0} (R : Kind → A → Type 0) (xs : List A) → Each R (coin_kinds (batch_layout (sheet_of edition1 w) (length bounds))) xs →
      Each R (replicate (words_for (sheet_of edition1 w) 1) coin) (take (words_for (sheet_of edition1 w) 1) xs) × Each R (coin_kinds (layout (sheet_of edition1 w))) (drop (words_for (sheet_of edition1 w) 1) xs)
  split_coins R xs e = each_append_at R (words_for h 1) (replicate (words_for h 1) coin) _ xs (length-replicate (words_for h 1) coin) (subst (λ (l : List Kind). Each R l xs) (batch_coins h N) e)

  coins_outside : Each (Outside h) ks (begun_by σ coins)
  coins_outside = each_false (out_in_domain σ h) 0 ks (begun_by σ coins) (begun_length σ coins ∙ batch_count) (at_passes 7 _ out_passed.0)

  pub combination_passes : Each (InRange (sheet_of edition1 w)) (replicate (words_for (sheet_of edition1 w) 1) coin) (take (words_for (sheet_of edition1 w) 1) coins)
  combination_passes = (split_coins (InRange h) coins coins_inside).0

  pub coins_after : Each (InRange (sheet_of edition1 w)) (coin_kinds (layout (sheet_of edition1 w))) (drop (words_for (sheet_of edition1 w) 1) coins)
  coins_after = (split_coins (InRange h) coins coins_inside).1

  pub outside_after : Each (Outside (sheet_of edition1 w)) (coin_kinds (layout (sheet_of edition1 w))) (begun_by (sheet_of edition1 w).spelling (drop (words_for (sheet_of edition1 w) 1) coins))
  outside_after = subst (Each (Outside h) (coin_kinds (layout h))) (begun_drop σ (words_for h 1) coins) (split_coins (Outside h) (begun_by σ coins) coins_outside).1

  pub batch_apart : NoRepeat (sheet_field (sheet_of edition1 w)) none (coin_kinds (batch_layout (sheet_of edition1 w) (length bounds))) (begun_by (sheet_of edition1 w).spelling coins)
  batch_apart = all_false 14 0 (repeated_outs (sheet_field h) none ks (begun_by σ coins)) out_passed.1

  -- the coins after r: fold coin 0, then those of the rounds
  abbrev plain : List ℕ
  plain = drop (words_for (sheet_of edition1 w) 1) coins

  plain_split : {A : Type 0} (R : Kind → A → Type 0) (xs : List A) → Each R (coin_kinds (layout (sheet_of edition1 w))) xs →
      Each R (replicate (words_for (sheet_of edition1 w) 1) coin) (take (words_for (sheet_of edition1 w) 1) xs)
      × Each R (coin_kinds (rest_layout (sheet_of edition1 w).spelling (sheet_of edition1 w).out_coins (first_level (sheet_of edition1 w)) (later_levels (sheet_of edition1 w)))) (drop (words_for (sheet_of edition1 w) 1) xs)
  plain_split R xs e = each_append_at R (words_for h 1) (replicate (words_for h 1) coin) _ xs (length-replicate (words_for h 1) coin) (subst (λ (l : List Kind). Each R l xs) (layout_coins h) e)

  pub first_passes : Each (InRange (sheet_of edition1 w)) (replicate (words_for (sheet_of edition1 w) 1) coin) (take (words_for (sheet_of edition1 w) 1) (drop (words_for (sheet_of edition1 w) 1) coins))
  first_passes = (plain_split (InRange h) plain coins_after).0

  pub batch_runs : CoinRuns (InRange (sheet_of edition1 w)) (sheet_of edition1 w).spelling (sheet_of edition1 w).out_coins (first_level (sheet_of edition1 w)) (later_levels (sheet_of edition1 w))
      (drop (words_for (sheet_of edition1 w) 1) (drop (words_for (sheet_of edition1 w) 1) coins))
  batch_runs = coin_runs (InRange h) σ h.out_coins (first_level h) (later_levels h) (drop (words_for h 1) plain) (plain_split (InRange h) plain coins_after).1

  pub batch_off : CoinRuns (Outside (sheet_of edition1 w)) (sheet_of edition1 w).spelling (sheet_of edition1 w).out_coins (first_level (sheet_of edition1 w)) (later_levels (sheet_of edition1 w))
      (begun_by (sheet_of edition1 w).spelling (drop (words_for (sheet_of edition1 w) 1) (drop (words_for (sheet_of edition1 w) 1) coins)))
  batch_off =
      subst (CoinRuns (Outside h) σ h.out_coins (first_level h) (later_levels h)) (begun_drop σ (words_for h 1) plain)
      (coin_runs (Outside h) σ h.out_coins (first_level h) (later_levels h) (drop (words_for h 1) (begun_by σ plain)) (plain_split (Outside h) (begun_by σ plain) outside_after).1)

  pub batch_some : (words_for (sheet_of edition1 w) 1 ≤ length coins) × (words_for (sheet_of edition1 w) 1 ≤ length (drop (words_for (sheet_of edition1 w) 1) coins))
  batch_some =
      let n = words_for h 1 in
      let c = ap length (batch_coins h N) in
      let d = length-append (replicate n coin) (coin_kinds (layout h)) in
      let e = ap length (layout_coins h) in
      let g = length-append (replicate n coin) (coin_kinds (rest_layout σ h.out_coins (first_level h) (later_levels h))) in
      let k = length-replicate n coin in
      (omega (arith, batch_count, c, d, k), omega (arith, length-drop n coins, batch_count, c, d, e, g, k))
