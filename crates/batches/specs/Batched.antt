-- THE VOCABULARY OF THE PAGE: what a batch's prover asks of its input, and the reads of an accepted batch. It holds no lemma and no proof. Levels, indices and reads of a
-- level are those of Levels (crate `layouts`) and Numbered (crate `completeness`).
use Rattle.std.specs.Prelude.{ℕ, zero, suc, ◌+◌, ◌-◌, ◌*◌, ◌/◌, ◌≤◌, ◌<◌, cond, ◌||◌, List, [], ◌∷◌, ◌++◌, map, ◌≡◌, eqb, length, get_or, take, drop}
use Rattle.batch_definition.specs.Batch.{Batch, batch_coefficients_test, batch_coins_test, batch_function, batch_layout, batch_out_tests, batch_range_test, batch_start, batch_test, batch_words, read_batch, sum_of}
use Rattle.definition.specs.Block.{block_count, stream_of}
use Rattle.definition.specs.Field.{Element, Field, words_of}
use Rattle.definition.specs.Layout.{coin_kinds}
use Rattle.definition.specs.Lists.{range}
use Rattle.definition.specs.Prove.{output_test, sheet_length_test}
use Rattle.definition.specs.Reading.{sheet_test}
use Rattle.definition.specs.Sheet.{Sheet, edition1, first_level, sheet_of}
use Rattle.definition.specs.Verdict.{Outcome, accepted, refused}
use Rattle.layouts.specs.Levels.{level_of, rounds_of, sheet_field, sheet_root, total, words_for}
use Rattle.completeness.specs.Numbered.{indices_of, level_reads}

-- THE COMBINATION BY NUMBER: e_1 + .. + e_m and m more, the power of r of table m + 1, where e_i = d - b_i; and the sum of a list of elements.
unfoldable pub exponent : ℕ → List ℕ → ℕ → ℕ
exponent d [] m = m
exponent d (b ∷ bs) zero = 0
exponent d (b ∷ bs) (suc m) = suc (d - b) + exponent d bs m

unfoldable pub sum_in : {A : Type 0} → Field A → List A → A
sum_in F [] = F.𝟘
sum_in F (x ∷ xs) = F.◌⊕◌ x (sum_in F xs)

-- THE PREMISES: the tests that the prover makes of its input, in their order. 12 words without a broken rule; 1 to 8 bounds, not too many for n0, each 1 to d0; as many
-- coefficients as the bounds say together; a full coin list; every word in range; every out coin outside its round's domain, and no two equal in a round.
pub record AllowedBatch (w bounds f coins : List ℕ) : Type 0 where
  pub words : sheet_length_test edition1 w ≡ accepted
  pub sheet : sheet_test edition1 w ≡ accepted
  pub bounded : batch_test (sheet_of edition1 w) (length bounds) bounds ≡ accepted
  pub coefficients : batch_coefficients_test (sheet_of edition1 w) bounds f ≡ accepted
  pub full : batch_coins_test (coin_kinds (batch_layout (sheet_of edition1 w) (length bounds))) coins ≡ accepted
  pub range : batch_range_test (sheet_of edition1 w) (sum_of bounds) (coin_kinds (batch_layout (sheet_of edition1 w) (length bounds))) (f ++ coins) ≡ accepted
  pub outside : batch_out_tests (sheet_of edition1 w) (coin_kinds (batch_layout (sheet_of edition1 w) (length bounds))) coins ≡ accepted

-- the output holds the blocks due
abbrev pub BatchRoom : Sheet → ℕ → List ℕ → Type 0
BatchRoom h count output = output_test (block_count (batch_words h count)) (512 * block_count (batch_words h count)) (length output) ≡ accepted

-- THE READS of an accepted batch: at level 0, k_0 for each different index in each of the tables; at the others k_i for each different index. The coins after r are those
-- of a plain run.
unfoldable pub batch_reads : Sheet → ℕ → List ℕ → ℕ
batch_reads h count coins =
    count * level_reads h 0 (indices_of h (drop (words_for h 1) coins) 0) + total (map (λ i. level_reads h i (indices_of h (drop (words_for h 1) coins) i)) (range 1 (rounds_of h)))

-- THE ANSWERS THAT EXIST, with the range of each place. h is the sheet in front of a file's stream, N the number of tables that stands after it.
abbrev pub batch_sheet : List ℕ → Sheet
batch_sheet file = sheet_of edition1 (stream_of file)

abbrev pub batch_number : List ℕ → ℕ
batch_number file = get_or (stream_of file) 12 0

-- Verify refuses a batch with one of these, in the order of their tests,
pub data VerifyRefusal (file : List ℕ) : ℕ → ℕ → Type 0 where
  length_wrong : VerifyRefusal file 1 0
  check_wrong : (b : ℕ) → b < length file / 512 → VerifyRefusal file 2 b
  rule_broken : (i : ℕ) → i < 12 → VerifyRefusal file 3 i
  number_wrong : VerifyRefusal file 15 0
  bound_wrong : (m : ℕ) → 1 ≤ m → m ≤ batch_number file → VerifyRefusal file 15 m
  blocks_differ : VerifyRefusal file 4 (block_count (batch_words (batch_sheet file) (batch_number file)))
  word_over : (q : ℕ) → batch_start (batch_number file) ≤ q → q < batch_words (batch_sheet file) (batch_number file) → VerifyRefusal file 5 q
  fill_set : (q : ℕ) → batch_words (batch_sheet file) (batch_number file) ≤ q → q < 127 * (length file / 512) → VerifyRefusal file 6 q
  coin_inside : (q : ℕ) → batch_start (batch_number file) ≤ q → q < batch_words (batch_sheet file) (batch_number file) → VerifyRefusal file 7 q
  coin_equal : (q : ℕ) → batch_start (batch_number file) ≤ q → q < batch_words (batch_sheet file) (batch_number file) → VerifyRefusal file 14 q
  pairs_clash : (i : ℕ) → 1 ≤ i → i ≤ rounds_of (batch_sheet file) → VerifyRefusal file 8 i
  final_differs : (j : ℕ) → j < (level_of (batch_sheet file) (rounds_of (batch_sheet file))).repetitions → VerifyRefusal file 9 j

-- and prove with one of these.
pub data ProveRefusal (w bounds f coins : List ℕ) : ℕ → ℕ → Type 0 where
  sheet_length_case : ProveRefusal w bounds f coins 10 0
  rule_broken : (i : ℕ) → i < 12 → ProveRefusal w bounds f coins 3 i
  number_wrong : ProveRefusal w bounds f coins 15 0
  bound_wrong : (m : ℕ) → 1 ≤ m → m ≤ length bounds → ProveRefusal w bounds f coins 15 m
  coefficient_count : ProveRefusal w bounds f coins 10 1
  coin_count : ProveRefusal w bounds f coins 10 2
  word_over : (q : ℕ) → q < length f + length coins → ProveRefusal w bounds f coins 5 q
  coin_inside : (q : ℕ) → q < length coins → ProveRefusal w bounds f coins 7 q
  coin_equal : (q : ℕ) → q < length coins → ProveRefusal w bounds f coins 14 q
  output_short : ProveRefusal w bounds f coins 11 (block_count (batch_words (sheet_of edition1 w) (length bounds)))

-- A BATCH AS A PLAIN STREAM: the sheet, the first function's values at the n0 points as table 0, and the words from fold coin 0 on.
unfoldable pub combined_table : (h : Sheet) → Batch (Element h.spelling) → List (Element h.spelling)
combined_table h β = map (batch_function (sheet_field h) (sheet_root h) (first_level h) β).value (range 0 h.size)

-- the word number of fold coin 0 in a batch of so many tables
unfoldable pub fold_number : Sheet → ℕ → ℕ
fold_number h count = batch_start count + (words_for h (count * h.size) + words_for h 1)

unfoldable pub plain_words : List ℕ → List ℕ
plain_words w =
    let h = sheet_of edition1 w in
    take 12 w ++ (words_of h.spelling (combined_table h (read_batch h.spelling h (drop 12 w))) ++ drop (fold_number h (get_or w 12 0)) w)

-- the word numbers of a batch are higher by so many from fold coin 0 on
unfoldable pub higher_by : Sheet → ℕ → ℕ
higher_by h count = fold_number h count - (12 + words_for h h.size)

unfoldable pub higher : ℕ → Outcome → Outcome
higher k accepted = accepted
higher k (refused n q) = refused n (q + k)

-- the outcome of a plain stream as that of its batch: a 7 and a 14 are at higher numbers
unfoldable pub placed : ℕ → Outcome → Outcome
placed k accepted = accepted
placed k (refused n q) = refused n (cond (eqb n 7 || eqb n 14) (q + k) q)
