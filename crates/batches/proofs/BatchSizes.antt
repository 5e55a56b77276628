-- What the words of a batch come to at most: 99 blocks.
use Prim.Native.Nat.{ℕ, zero, suc, ◌+◌, ◌*◌, ◌/◌, ◌≤◌, ◌<◌}
use Rattle.std.proofs.Math.Decide.{dec_lt}
use Rattle.std.proofs.Common.{div-mul-le_self, mul-le-mul_left, mul-le-mul_right, ◌∙◌, pow_mono}
use native.Mathlib.Omega.{arith}
use Rattle.std.specs.Prelude.{List, ◌≡◌, length, get_or}
use Rattle.std.proofs.Math.Path.{ap}
use Rattle.std.proofs.Math.Seq.{get_or-take}
use Rattle.batch_definition.specs.Batch.{batch_start, batch_test, batch_words}
use Rattle.definition.specs.Block.{block_count}
use Rattle.definition.specs.Field.{Spelling, four, one, word_count}
use Rattle.definition.specs.Layout.{words_due}
use Rattle.definition.specs.Reading.{sheet_test}
use Rattle.definition.specs.Sheet.{Sheet, edition1, final_count, fold_words, sheet_of}
use Rattle.definition.specs.Verdict.{accepted}
use Rattle.layouts.proofs.DueSizes.{coins_most}
use Rattle.layouts.proofs.Lawful.{lawful, rounds_word}
use Rattle.layouts.specs.LawfulSheets.{Lawful}
use Rattle.layouts.proofs.LayoutByRound.{coins_due_lem, words_due_lem}
use Rattle.layouts.specs.Levels.{coin_count, coins_before, degree_of, level_of, round_count, round_start, rounds_of, words_for}
use Rattle.layouts.proofs.LevelsByNumber.{folded, halved, undivided, undivided_degree}
use Rattle.layouts.proofs.PlainSheet.{sheet_plain}
use Rattle.layouts.proofs.SheetLevels.{sized}
use Rattle.layouts.specs.Spellings.{count_add, count_mono, count_one}
use Rattle.batches.specs.BatchRules.{entries_few, entry_words_lem, tables_few}
use Rattle.batches.specs.Batched.{fold_number, higher_by}
use Rattle.batches.proofs.PlainStream.{words_higher}

-- so many elements halved, and doubled again; four times, and 32 times as many
halves : (σ : Spelling) (n : ℕ) → word_count σ (n / 2) + word_count σ (n / 2) ≤ word_count σ n
unfolding word_count
halves one n = omega arith
halves four n = omega arith

quarters : (σ : Spelling) (m n : ℕ) → 4 * m ≤ n → 4 * word_count σ m ≤ word_count σ n
unfolding word_count
quarters one m n l = omega arith
quarters four m n l = omega arith

parts : (σ : Spelling) (m n : ℕ) → n ≤ 32 * m → word_count σ n ≤ 32 * word_count σ m
unfolding word_count
parts one m n l = omega arith
parts four m n l = omega arith

replies : (σ : Spelling) (s : ℕ) → s ≤ 2 → word_count σ s ≤ 8
unfolding word_count
replies one s l = omega arith
replies four s l = omega arith

-- what is folded at level i has at most a quarter of its points: d_i is at most n_i/2
half : (n d k : ℕ) → 2 ≤ k → d ≤ n → d / k ≤ n / 2
half n d k least l = omega (arith, div-mul-le_self d k, mul-le-mul_left (d / k) least)

-- THE WORDS BY THOSE OF TABLE 0: the other tables are its halves; each round replies to up to two out coins; the coins are as many as they are.
module _ (h : Sheet) (law : Lawful h) (folding : (i : ℕ) → i ≤ rounds_of h → 2 ≤ get_or h.folds i 0) (low : h.degree ≤ h.size / 2) where
  tables : (i : ℕ) → i ≤ rounds_of h → round_start edition1 h (suc i) + words_for h (level_of h i).size ≤ 12 + 2 * words_for h h.size + 8 * i + coins_before h (suc i)
  unfolding round_start round_count coins_before coin_count
  tables zero l = omega (arith, ap (words_for h) (undivided h.size))
  tables (suc i) l =
      omega (arith, tables i (omega arith), halves h.spelling (level_of h i).size, ap (words_for h) (halved h.size i), replies h.spelling h.out_coins law.outs)

  degrees : (i : ℕ) → i ≤ rounds_of h → degree_of h i ≤ (level_of h i).size / 2
  degrees zero l = omega (arith, undivided_degree h, undivided h.size, low)
  degrees (suc i) l =
      omega (arith, half ((level_of h i).size / 2) (degree_of h i) (get_or h.folds i 0) (folding i (omega arith)) (degrees i (omega arith)), folded h i (omega (arith, law.paired.some)), halved h.size i)

  few_rounds : rounds_of h ≤ 5
  few_rounds = omega (arith, law.most, law.paired.some)

  last : h.size ≤ 32 * (level_of h (rounds_of h)).size
  last = omega (arith, (sized h law (rounds_of h) (omega arith)).whole, law.size, mul-le-mul_right (level_of h (rounds_of h)).size (pow_mono few_rounds))

  by_table : {coins : ℕ} → coins_before h (suc (rounds_of h)) + (level_of h (rounds_of h)).repetitions ≤ coins →
      128 * words_due edition1 h + 3 * words_for h h.size ≤ 128 * (12 + 2 * words_for h h.size + 40 + coins)
  unfolding final_count
  by_table {coins} c =
      let M = rounds_of h in
      omega (
        arith,
        words_due_lem edition1 h law.paired,
        tables M (omega arith),
        parts h.spelling (level_of h M).size h.size last,
        quarters h.spelling (final_count (level_of h M)) (level_of h M).size
            (omega (arith, half ((level_of h M).size / 2) (degree_of h M) (get_or h.folds M 0) (folding M (omega arith)) (degrees M (omega arith)))),
        few_rounds,
        c,
      )

module _ (w : List ℕ) (long : 12 ≤ length w) (passed : sheet_test edition1 w ≡ accepted) (count : ℕ) (bounds : List ℕ) (ruled : batch_test (sheet_of edition1 w) count bounds ≡ accepted) where
  abbrev h : Sheet
  h = sheet_of edition1 w

  law : Lawful (sheet_of edition1 w)
  law = lawful edition1 w long passed

  folding : (i : ℕ) → i ≤ rounds_of (sheet_of edition1 w) → 2 ≤ get_or (sheet_of edition1 w).folds i 0
  unfolding sheet_of
  folding i l =
      let m = rounds_word edition1 w long passed in
      omega (arith, get_or-take (suc (get_or w 4 0)) (fold_words edition1 w) i 0 (omega (arith, m)), ((sheet_plain edition1 w passed).fold_range i (omega (arith, m))).0)

  low : (sheet_of edition1 w).degree ≤ (sheet_of edition1 w).size / 2
  unfolding sheet_of
  low = (sheet_plain edition1 w passed).plain.degree_range.1

  -- one or two tables of up to 4,096 words, or more of up to 2,730
  pub batch_most : batch_words (sheet_of edition1 w) count ≤ 12573
  unfolding higher_by fold_number batch_start
  batch_most = go (dec_lt 2 count)
    where
      few : (1 ≤ count) × (count ≤ 8)
      few = tables_few h count bounds ruled

      all : words_for h (count * h.size) ≤ 8192
      all = entry_words_lem h.spelling (count * h.size) (entries_few h count bounds ruled)

      two : words_for h (2 * h.size) ≡ words_for h h.size + words_for h h.size
      two = ap (words_for h) (let e : 2 * h.size ≡ h.size + h.size = omega arith in e) ∙ count_add h.spelling h.size h.size

      most : 128 * words_due edition1 h + 3 * words_for h h.size ≤ 128 * (12 + 2 * words_for h h.size + 40 + 318)
      most = by_table h law folding low (omega (arith, coins_most edition1 w long passed, coins_due_lem edition1 h law.paired))

      go : Dec (2 < count) → batch_words h count ≤ 12573
      go (yes l) =
          let more : words_for h (3 * h.size) ≤ words_for h (count * h.size) = count_mono h.spelling (3 * h.size) (count * h.size) (mul-le-mul_right h.size l) in
          let three : words_for h (3 * h.size) ≡ words_for h h.size + words_for h (2 * h.size) =
          ap (words_for h) (let e : 3 * h.size ≡ h.size + 2 * h.size = omega arith in e) ∙ count_add h.spelling h.size (2 * h.size) in
          omega (arith, words_higher h count few.0, few, all, two, three, more, most, (count_one h.spelling).1)
      go (no l) =
          let less : words_for h (count * h.size) ≤ words_for h (2 * h.size) = count_mono h.spelling (count * h.size) (2 * h.size) (mul-le-mul_right h.size (let u : count ≤ 2 = omega arith in u)) in
          omega (arith, words_higher h count few.0, few, two, less, most, law.words, (count_one h.spelling).1)

  pub batch_blocks : block_count (batch_words (sheet_of edition1 w) count) ≤ 99
  unfolding block_count
  batch_blocks = omega (arith, batch_most)
