-- What a sheet that passes makes due, in either edition: at most 8,472 words, which are 67 blocks, 318 words of coins, and 4,608 reads.
use Prim.Native.Nat.{ℕ, zero, suc, ◌+◌, ◌*◌, ◌/◌, ◌^◌, ◌≤◌, ◌<◌}
use Rattle.std.proofs.Common.{div-mul-le_self, mul-le-mul_left, mul-le-mul_right, drop_of_length-le, pow_mono}
use Rattle.std.proofs.Math.Nat.{mul-le-mul}
use native.Mathlib.Omega.{arith}
use mathlib.Core.List.{List, zip_with}
use Rattle.std.specs.Prelude.{◌≡◌, length, get_or, drop}
use Rattle.std.proofs.Math.Path.{ap}
use Rattle.std.proofs.Math.Seq.{drop-cons, get_or-take}
use Rattle.definition.specs.Block.{block_count}
use Rattle.definition.specs.Field.{Spelling, four, one, word_count}
use Rattle.definition.specs.Layout.{coin_kinds, later_count, layout, words_due}
use Rattle.definition.specs.Reading.{sheet_test}
use Rattle.definition.specs.Sheet.{Edition, Sheet, final_count, fold_words, sheet_length, sheet_of}
use Rattle.definition.specs.Verdict.{accepted}
use Rattle.layouts.proofs.Lawful.{lawful, rounds_word}
use Rattle.layouts.specs.LawfulSheets.{Lawful}
use Rattle.layouts.proofs.LayoutByRound.{coins_due_lem, words_due_lem}
use Rattle.layouts.specs.Levels.{coin_count, coins_before, degree_of, level_of, round_count, round_start, rounds_of, total, words_for}
use Rattle.layouts.proofs.LevelsByNumber.{folded, halved, undivided, undivided_degree}
use Rattle.layouts.proofs.PlainSheet.{sheet_plain}
use Rattle.layouts.proofs.SheetLevels.{sized}
use Rattle.layouts.specs.SheetRules.{short_sheet}

-- the degree bound falls at least as the domain does
degree_halves : (n d k : ℕ) → 2 ≤ k → d ≤ n → d / k ≤ n / 2
degree_halves n d k hk h = omega (arith, div-mul-le_self d k, mul-le-mul_left (d / k) hk)

-- so many elements halved, and doubled again
count_halves : (σ : Spelling) (n : ℕ) → word_count σ (n / 2) + word_count σ (n / 2) ≤ word_count σ n
unfolding word_count
count_halves one n = omega arith
count_halves four n = omega arith

count_quarter : (σ : Spelling) (m n : ℕ) → 4 * m ≤ n → 4 * word_count σ m ≤ word_count σ n
unfolding word_count
count_quarter one m n l = omega arith
count_quarter four m n l = omega arith

count_thirty_two : (σ : Spelling) (m n : ℕ) → n ≤ 32 * m → word_count σ n ≤ 32 * word_count σ m
unfolding word_count
count_thirty_two one m n l = omega arith
count_thirty_two four m n l = omega arith

-- the most words besides tables, and the most coin words, of i rounds: t_i is at most 48, and t_i + s below d_(i+1), which is at most n_(i+1)/2
most_words : Spelling → ℕ → ℕ
most_words one i = 54 * i
most_words four zero = 0
most_words four (suc zero) = 72
most_words four (suc (suc zero)) = 144
most_words four (suc (suc (suc zero))) = 216
most_words four (suc (suc (suc (suc zero)))) = 269
most_words four (suc (suc (suc (suc (suc i))))) = 306

most_coins : Spelling → ℕ → ℕ
most_coins one i = 52 * i
most_coins four zero = 0
most_coins four (suc zero) = 64
most_coins four (suc (suc zero)) = 128
most_coins four (suc (suc (suc zero))) = 192
most_coins four (suc (suc (suc (suc zero)))) = 237
most_coins four (suc (suc (suc (suc (suc i))))) = 266

words_step : (σ : Spelling) (n s t m i : ℕ) → word_count σ n ≤ 4096 → s ≤ 2 → t ≤ 48 → t + s < m → m ≤ n / 2 ^ suc i / 2 → i < 5 →
    most_words σ i + (word_count σ s + (word_count σ s + (word_count σ 2 + t))) ≤ most_words σ (suc i)
unfolding most_words word_count
words_step one n s t m i a b c d e l = omega arith
words_step four n s t m zero a b c d e l = omega arith
words_step four n s t m (suc zero) a b c d e l = omega arith
words_step four n s t m (suc (suc zero)) a b c d e l = omega arith
words_step four n s t m (suc (suc (suc zero))) a b c d e l = omega arith
words_step four n s t m (suc (suc (suc (suc zero)))) a b c d e l = omega arith
words_step four n s t m (suc (suc (suc (suc (suc i))))) a b c d e l = absurd (omega arith)

coins_step : (σ : Spelling) (n s t m i : ℕ) → word_count σ n ≤ 4096 → s ≤ 2 → t ≤ 48 → t + s < m → m ≤ n / 2 ^ suc i / 2 → i < 5 →
    most_coins σ i + (word_count σ s + (word_count σ 2 + t)) ≤ most_coins σ (suc i)
unfolding most_coins word_count
coins_step one n s t m i a b c d e l = omega arith
coins_step four n s t m zero a b c d e l = omega arith
coins_step four n s t m (suc zero) a b c d e l = omega arith
coins_step four n s t m (suc (suc zero)) a b c d e l = omega arith
coins_step four n s t m (suc (suc (suc zero))) a b c d e l = omega arith
coins_step four n s t m (suc (suc (suc (suc zero)))) a b c d e l = omega arith
coins_step four n s t m (suc (suc (suc (suc (suc i))))) a b c d e l = absurd (omega arith)

-- in all
most_words_lem : (σ : Spelling) (i : ℕ) → i ≤ 5 → word_count σ 1 + most_words σ i ≤ 310
unfolding most_words word_count
most_words_lem one i l = omega arith
most_words_lem four zero l = omega arith
most_words_lem four (suc zero) l = omega arith
most_words_lem four (suc (suc zero)) l = omega arith
most_words_lem four (suc (suc (suc zero))) l = omega arith
most_words_lem four (suc (suc (suc (suc zero)))) l = omega arith
most_words_lem four (suc (suc (suc (suc (suc i))))) l = omega arith

most_coins_lem : (σ : Spelling) (i : ℕ) → i ≤ 5 → word_count σ 1 + most_coins σ i ≤ 270
unfolding most_coins word_count
most_coins_lem one i l = omega arith
most_coins_lem four zero l = omega arith
most_coins_lem four (suc zero) l = omega arith
most_coins_lem four (suc (suc zero)) l = omega arith
most_coins_lem four (suc (suc (suc zero))) l = omega arith
most_coins_lem four (suc (suc (suc (suc zero)))) l = omega arith
most_coins_lem four (suc (suc (suc (suc (suc i))))) l = omega arith

module _ (ed : Edition) (w : List ℕ) (long : sheet_length ed ≤ length w) (passed : sheet_test ed w ≡ accepted) where
  abbrev h : Sheet
  h = sheet_of ed w

  abbrev M : ℕ
  M = rounds_of (sheet_of ed w)

  law : Lawful (sheet_of ed w)
  law = lawful ed w long passed

  few : M ≤ 5
  few = omega (arith, law.most, law.paired.some)

  fold_range_lem : (i : ℕ) → i ≤ M → (2 ≤ get_or h.folds i 0) × (get_or h.folds i 0 ≤ 16)
  unfolding sheet_of
  fold_range_lem i l =
      let m = rounds_word ed w long passed in
      let word = get_or-take (suc (get_or w 4 0)) (fold_words ed w) i 0 (omega (arith, m)) in
      let r = (sheet_plain ed w passed).fold_range i (omega (arith, m)) in
      (omega (arith, word, r.0), omega (arith, word, r.1))

  fold_two : (i : ℕ) → i ≤ M → 2 ≤ get_or h.folds i 0
  fold_two i l = (fold_range_lem i l).0

  -- d_i is at most n_i/2
  half_degree : (i : ℕ) → i ≤ M → degree_of h i ≤ (level_of h i).size / 2
  unfolding sheet_of
  half_degree zero l = omega (arith, undivided_degree h, undivided h.size, (sheet_plain ed w passed).plain.degree_range.1)
  half_degree (suc i) l =
      omega (
        arith,
        degree_halves ((level_of h i).size / 2) (degree_of h i) (get_or h.folds i 0) (fold_two i (omega arith)) (half_degree i (omega arith)),
        folded h i (omega (arith, law.paired.some)),
        halved h.size i,
      )

  -- the tables halve
  starts_bound : (i : ℕ) → i ≤ M → round_start ed h (suc i) + words_for h (level_of h i).size ≤ sheet_length ed + 2 * words_for h h.size + words_for h 1 + most_words h.spelling i
  unfolding round_start round_count later_count
  starts_bound zero l = omega (arith, ap (words_for h) (undivided h.size))
  starts_bound (suc i) l =
      omega (
        arith,
        starts_bound i (omega arith),
        count_halves h.spelling (level_of h i).size,
        ap (words_for h) (halved h.size i),
        words_step h.spelling h.size h.out_coins (level_of h i).repetitions (degree_of h (suc i)) i law.words law.outs (law.times i (omega arith)) (law.few i (omega arith))
            (half_degree (suc i) l) (omega (arith, few)),
      )

  -- the last table is at least a part of 32 of the first
  last_table : h.size ≤ 32 * (level_of h M).size
  last_table =
      let s = sized h law M (omega arith) in
      omega (arith, s.whole, law.size, mul-le-mul_right (level_of h M).size (pow_mono few))

  pub words_most : words_due ed (sheet_of ed w) ≤ 8472
  unfolding final_count
  words_most =
      omega (
        arith,
        words_due_lem ed h law.paired,
        starts_bound M (omega arith),
        count_thirty_two h.spelling (level_of h M).size h.size last_table,
        count_quarter h.spelling (final_count (level_of h M)) (level_of h M).size
            (omega (arith, degree_halves ((level_of h M).size / 2) (degree_of h M) (get_or h.folds M 0) (fold_two M (omega arith)) (half_degree M (omega arith)))),
        law.times M (omega arith),
        law.words,
        most_words_lem h.spelling M few,
        short_sheet ed,
      )

  pub blocks_most : block_count (words_due ed (sheet_of ed w)) ≤ 67
  unfolding block_count
  blocks_most = omega (arith, words_most)

  coins_bound : (i : ℕ) → i ≤ M → coins_before h (suc i) ≤ words_for h 1 + most_coins h.spelling i
  unfolding coins_before coin_count later_count
  coins_bound zero l = omega arith
  coins_bound (suc i) l =
      omega (
        arith,
        coins_bound i (omega arith),
        coins_step h.spelling h.size h.out_coins (level_of h i).repetitions (degree_of h (suc i)) i law.words law.outs (law.times i (omega arith)) (law.few i (omega arith))
            (half_degree (suc i) l) (omega (arith, few)),
      )

  pub coins_most : length (coin_kinds (layout (sheet_of ed w))) ≤ 318
  coins_most = omega (arith, coins_due_lem ed h law.paired, coins_bound M (omega arith), law.times M (omega arith), most_coins_lem h.spelling M few)

  -- k_i is at most 16, t_i at most 48
  reads_bound : (m i : ℕ) → i + m ≡ length h.folds → total (zip_with ◌*◌ (drop i h.folds) (drop i h.repetitions)) ≤ 768 * m
  unfolding total zip_with
  reads_bound zero i e = rw (drop_of_length-le h.folds {i = i} (omega arith)) (omega arith)
  reads_bound (suc m) i e =
      let l : i ≤ M = omega (arith, law.paired.some) in
      rw (drop-cons h.folds i 0 (omega arith), drop-cons h.repetitions i 0 (omega (arith, law.paired.same)))
      (omega (arith, mul-le-mul (fold_range_lem i l).1 (law.times i l), reads_bound m (suc i) (omega arith)))

  -- k_0·t_0 + .. + k_M·t_M
  pub reads_most : total (zip_with ◌*◌ (sheet_of ed w).folds (sheet_of ed w).repetitions) ≤ 4608
  reads_most = omega (arith, reads_bound (length h.folds) 0 (omega arith), law.most)
