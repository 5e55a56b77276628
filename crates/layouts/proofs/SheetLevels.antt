-- The levels of a sheet without a fault: each has its sizes, and each step from one to the next leaves more degree than there are points.
use Prim.Native.Nat.{ℕ, zero, suc, ◌+◌, ◌-◌, ◌/◌, ◌^◌, ◌≤◌, ◌<◌}
use Rattle.std.proofs.Common.{pow-suc, arith, ap, ◌∙◌, length-append, length-drop, ext_get_or, get_or-drop, get_or-take, length-take-le, take-take}
use Rattle.std.specs.Prelude.{List, [], ◌∷◌, ◌++◌, map, ◌≡◌, refl, length, get_or, take, drop, replicate}
use Rattle.std.proofs.Math.Path.{sym}
use Rattle.std.proofs.lemmas.List.{length-map}
use Rattle.std.proofs.Math.ListN.{get_or-append}
use Rattle.definition.specs.Field.{generator_of, prime_of, spelling_of}
use Rattle.definition.specs.Lists.{product_of, range}
use Rattle.definition.specs.Reading.{sheet_test}
use Rattle.definition.specs.Sheet.{Edition, Sheet, degree_rule, edition1, edition2, edition_rule, field_rule, first_level, fold_places, fold_rule, fold_words, folding_number, later_fold_rule, later_levels, later_rules, out_coins_rule, repetitions_rule, rounds_rule, sheet_length, sheet_of, sheet_rules, size_rule, test_order}
use Rattle.definition.specs.Verdict.{accepted}
use Rattle.list_laws.specs.Lists.{get_d_map, take_map}
use Rattle.layouts.specs.LawfulSheets.{Lawful, Step, Steps}
use Rattle.layouts.proofs.Lawful.{times_word}
use Rattle.layouts.specs.LevelSizes
use Rattle.layouts.specs.LevelSizes.{Chain, Sized, sized_at}
use Rattle.layouts.specs.Levels.{degree_of, level_of, out_coin_count, rounds_of, total}
use Rattle.layouts.proofs.LevelsByNumber.{as_listed, folded}
use Rattle.layouts.specs.SheetRules.{eighteen, long_enough, product_powers, rounds_most, twelve}

-- the logarithms of the first i folding numbers, together
abbrev log_before : List ℕ → ℕ → ℕ
log_before cs i = total (map suc (take i cs))

-- i is at most that, and with the next it is at most all
log_room : (cs : List ℕ) (i : ℕ) → i < length cs → (i ≤ log_before cs i) × (log_before cs i + suc (get_or cs i 0) ≤ total (map suc cs))
unfolding total
log_room [] i h = absurd (omega arith)
log_room (c ∷ cs) zero h = (omega arith, omega arith)
log_room (c ∷ cs) (suc i) h = let r = log_room cs i (omega arith) in (omega (arith, r.0), omega (arith, r.1))

module _ (h : Sheet) (g : Lawful h) where
  open g use {a, b, cs, size, degree, folds, below, room, paired, few}

  count : length h.folds ≡ length cs
  count = ap length folds ∙ length-map cs (λ c. 2 ^ suc c)

  fold_at : (i : ℕ) → i < length cs → get_or h.folds i 0 ≡ 2 ^ suc (get_or cs i 0)
  fold_at i l = ap (λ (x : List ℕ). get_or x i 0) folds ∙ get_d_map (λ c. 2 ^ suc c) cs 0 0 i l

  product_at : (i : ℕ) → product_of (take i h.folds) ≡ 2 ^ log_before cs i
  product_at i = ap (λ (x : List ℕ). product_of (take i x)) folds ∙ ap product_of (take_map (λ c. 2 ^ suc c) i cs) ∙ product_powers (take i cs)

  -- level i: n_i and d_i are powers of two, and k_i divides both
  pub sized : (i : ℕ) → i ≤ rounds_of h → Sized (suc a) (level_of h i)
  sized i l = rw (fold_at i within) (sized_at (suc a) i (suc a - i) (b - log_before cs i) (suc (get_or cs i 0)) (get_or h.repetitions i 0) (h.size / 2 ^ i) (degree_of h i)
      (omega (arith, narrow, below, room)) (omega (arith, narrow, below, room)) (omega (arith, narrow, room)) sizes degrees)
    where
      within : i < length cs
      within = omega (arith, count, paired.some)

      narrow : (i ≤ log_before cs i) × (log_before cs i + suc (get_or cs i 0) ≤ total (map suc cs))
      narrow = log_room cs i within

      sizes : h.size / 2 ^ i ≡ 2 ^ (suc a - i)
      sizes = let e : suc a ≡ suc a - i + i = omega (arith, narrow, below, room) in ap (λ (x : ℕ). x / 2 ^ i) (size ∙ ap (λ (x : ℕ). 2 ^ x) e) ∙ LevelSizes.quotient (suc a - i) i

      degrees : degree_of h i ≡ 2 ^ (b - log_before cs i)
      degrees =
          let e : b ≡ b - log_before cs i + log_before cs i = omega (arith, narrow, room) in
          (λ x. (degree ∙ ap (λ (y : ℕ). 2 ^ y) e) x / product_at i x) ∙ LevelSizes.quotient (b - log_before cs i) (log_before cs i)

  -- from level i to level i + 1
  pub step : (i : ℕ) → i < rounds_of h → Step (out_coin_count h) (level_of h i) (level_of h (suc i))
  step i l = record {
    few = omega (arith, few i l);
    before = i;
    number = refl;
    half = 2 ^ get_or cs i 0;
    even = omega (arith, fold_at i (omega (arith, count, paired.some)), pow-suc 2 (get_or cs i 0));
  }

  -- the levels in their order
  chain_from : (m i : ℕ) → i + m ≡ rounds_of h → Chain (suc a) (level_of h i) (map (level_of h) (range (suc i) m))
  unfolding range
  chain_from zero i e = sized i (omega arith)
  chain_from (suc m) i e = (sized i (omega arith), sym (folded h i (omega (arith, paired.some))), chain_from m (suc i) (omega arith))

  steps_from : (m i : ℕ) → i + m ≡ rounds_of h → Steps (out_coin_count h) (level_of h i) (map (level_of h) (range (suc i) m))
  unfolding range
  steps_from zero i e = tt
  steps_from (suc m) i e = (step i (omega arith), steps_from m (suc i) (omega arith))

  pub sheet_chain : Chain (suc a) (first_level h) (later_levels h)
  sheet_chain = as_listed h (Chain (suc a)) paired (chain_from (rounds_of h) 0 (omega arith))

  pub sheet_steps : Steps h.out_coins (first_level h) (later_levels h)
  sheet_steps = as_listed h (Steps (out_coin_count h)) paired (steps_from (rounds_of h) 0 (omega arith))

-- level i by the words of the sheet
pub level_is : (ed : Edition) (w : List ℕ) → sheet_length ed ≤ length w → sheet_test ed w ≡ accepted → (i : ℕ) → i ≤ get_or w 4 0 → level_of (sheet_of ed w) i ≡ record {
  number = i;
  size = get_or w 1 0 / 2 ^ i;
  degree = get_or w 2 0 / product_of (take i (fold_words ed w));
  fold = get_or (fold_words ed w) i 0;
  repetitions = get_or w (6 + i) 0;
}
unfolding sheet_of
level_is ed w long passed i l = λ t. record {
  number = i;
  size = get_or w 1 0 / 2 ^ i;
  degree = get_or w 2 0 / product_of (take-take i (suc (get_or w 4 0)) (fold_words ed w) (omega arith) t);
  fold = get_or-take (suc (get_or w 4 0)) (fold_words ed w) i 0 (omega arith) t;
  repetitions = times_word ed w long passed i l t;
}

-- Words 0 to 11 and the folding numbers settle the sheet, in either edition.
pub sheet_moved : (ed ed' : Edition) (v u : List ℕ) → 12 ≤ length v → 12 ≤ length u → get_or v 4 0 ≤ 5 → ((j : ℕ) → j < 12 → get_or v j 0 ≡ get_or u j 0) →
    take (suc (get_or v 4 0)) (fold_words ed v) ≡ take (suc (get_or u 4 0)) (fold_words ed' u) → sheet_of ed v ≡ sheet_of ed' u
unfolding sheet_of
sheet_moved ed ed' v u lv lu most same folds = λ i. record {
  spelling = spelling_of (same 0 (omega arith) i);
  prime = prime_of (same 0 (omega arith) i);
  generator = generator_of (same 0 (omega arith) i);
  size = same 1 (omega arith) i;
  degree = same 2 (omega arith) i;
  folds = folds i;
  out_coins = same 5 (omega arith) i;
  repetitions = times i;
}
  where
    M : ℕ
    M = get_or v 4 0

    long : (l : List ℕ) → 12 ≤ length l → length (take (suc M) (drop 6 l)) ≡ suc M
    long l h = length-take-le (suc M) (drop 6 l) (omega (arith, length-drop 6 l))

    times : take (suc (get_or v 4 0)) (drop 6 v) ≡ take (suc (get_or u 4 0)) (drop 6 u)
    times =
        ext_get_or 0 (take (suc M) (drop 6 v)) (take (suc M) (drop 6 u)) (long v lv ∙ sym (long u lu))
        (λ i l. let h : i < suc M = omega (arith, long v lv) in
        get_or-take (suc M) (drop 6 v) i 0 h ∙ get_or-drop 6 v i 0 ∙ same (6 + i) (omega arith) ∙ sym (get_or-drop 6 u i 0) ∙ sym (get_or-take (suc M) (drop 6 u) i 0 h))
        ∙ ap (λ (m : ℕ). take (suc m) (drop 6 u)) (same 4 (omega arith))

-- The folding words of a stream are those of its sheet,
folds_front : (ed : Edition) (w x : List ℕ) → length w ≡ sheet_length ed → fold_words ed (w ++ x) ≡ fold_words ed w
unfolding fold_words fold_places range
folds_front edition1 w x long = ap (replicate 6) (get_or-append w x 0 3 (omega arith))
folds_front edition2 w x long =
    let same : (i : ℕ) → i < 18 → get_or (w ++ x) i 0 ≡ get_or w i 0 = λ i l. get_or-append w x 0 i (omega arith) in
    λ j. same 3 (omega arith) j ∷ same 12 (omega arith) j ∷ same 13 (omega arith) j ∷ same 14 (omega arith) j ∷ same 15 (omega arith) j ∷ same 16 (omega arith) j ∷ []

-- so is the sheet,
pub sheet_front : (ed : Edition) (w : List ℕ) → length w ≡ sheet_length ed → sheet_test ed w ≡ accepted → (x : List ℕ) → sheet_of ed (w ++ x) ≡ sheet_of ed w
sheet_front ed w long passed x =
    let enough : 12 ≤ length w = long_enough ed w (omega arith) in
    let same : (j : ℕ) → j < 12 → get_or (w ++ x) j 0 ≡ get_or w j 0 = λ j l. get_or-append w x 0 j (omega (arith, enough)) in
    sheet_moved ed ed (w ++ x) w (omega (arith, enough, length-append w x)) enough (omega (arith, same 4 (omega arith), rounds_most ed w passed)) same
    (λ i. take (suc (same 4 (omega arith) i)) (folds_front ed w x long i))

-- and so are its rules.
pub rules_same : (ed : Edition) (w : List ℕ) → length w ≡ sheet_length ed → (x : List ℕ) → sheet_test ed (w ++ x) ≡ sheet_test ed w
unfolding sheet_test sheet_rules later_rules test_order field_rule size_rule degree_rule fold_rule folding_number rounds_rule out_coins_rule repetitions_rule later_fold_rule edition_rule fold_words fold_places product_of range
rules_same edition1 w long x = ap (λ (l : List ℕ). sheet_test edition1 (l ++ x)) (twelve w long)
rules_same edition2 w long x = ap (λ (l : List ℕ). sheet_test edition2 (l ++ x)) (eighteen w long)

pub rules_front : (ed : Edition) (w : List ℕ) → length w ≡ sheet_length ed → sheet_test ed w ≡ accepted → (x : List ℕ) → sheet_test ed (w ++ x) ≡ accepted
rules_front ed w long passed x = rules_same ed w long x ∙ passed

pub rules_back : (ed : Edition) (w : List ℕ) → length w ≡ sheet_length ed → (x : List ℕ) → sheet_test ed (w ++ x) ≡ accepted → sheet_test ed w ≡ accepted
rules_back ed w long x passed = sym (rules_same ed w long x) ∙ passed
