-- A batch's stream as a plain one: the sheet is the same, the words from fold coin 0 on too, the tests of out coins find the same coins, and deciding comes to the same
-- but for the reads of level 0.
use Prim.Native.Nat.{ℕ, zero, suc, ◌+◌, ◌-◌, ◌*◌, ◌≤◌, ◌<◌}
use Rattle.std.proofs.Common.{add_assoc, add-zero, ◌∙◌, take-append-drop, get_or-drop, length-take-le, take_at}
use Rattle.std.proofs.Math.Nat.{mul-le-mul_right, one-mul}
use native.Mathlib.Omega.{arith}
use Rattle.std.specs.Prelude.{Bool, true, false, ◌≡◌, take, replicate}
use mathlib.Core.List.{List, [], ◌∷◌, ◌++◌, append_assoc, append-nil, map, zip_with}
use Rattle.std.proofs.Math.Option.{Option, none, some}
use Rattle.std.proofs.Math.Path.{refl, sym, ap, subst}
use Rattle.std.proofs.Math.ListN.{length, get_or, drop, length-append, length-drop, length-map, length-replicate}
use Rattle.std.proofs.Math.Seq.{drop_at, drop-drop}
use Rattle.std.proofs.lemmas.Bool.{lt-leb}
use Rattle.batch_definition.specs.Batch.{Batch, batch_deciding, batch_function, batch_layout, batch_start, batch_words, combine_at, decide_batch, read_batch, table_numbers}
use Rattle.definition.specs.Deciding.{Decision, Place, counted, decide, deciding, equal_test, out_in_domain, out_before, out_repeated, out_test, out_tests, own_place, places_of, reads_of, repeated_outs, table_function}
use Rattle.definition.specs.Domain.{point}
use Rattle.definition.specs.Field.{Element, Field, Spelling, begun_by, elements_in, field_in, number_in, word_count, words_of}
use Rattle.definition.specs.Layout.{Kind, coin, layout, limit, message, read_rest, read_transcript, rest_layout, round_coins, words_due}
use Rattle.definition.specs.Lists.{chunks, first_true, range}
use Rattle.definition.specs.Reading.{out_of_range, range_test, sheet_test}
use Rattle.definition.specs.Sheet.{Level, Sheet, edition1, first_level, later_levels, sheet_of}
use Rattle.definition.specs.Transcript.{Rest, Transcript}
use Rattle.definition.specs.Verdict.{Outcome, ◌then◌, accepted, refuse_at, then_verdict}
use Rattle.algebra.specs.Laws.{FieldLaws}
use Rattle.list_laws.specs.All.{All, all_map, all_of_map, everywhere}
use Rattle.list_laws.specs.Chunks.{chunk_sizes, chunks_length}
use Rattle.list_laws.specs.Lists.{range_length}
use Rattle.layouts.proofs.Lawful.{lawful, rounds_word}
use Rattle.layouts.proofs.LevelsByNumber.{level_first, levels_later}
use Rattle.layouts.specs.LawfulSheets.{Paired}
use Rattle.completeness.specs.DecidedByNumber.{rest_round, rest_after}
use Rattle.completeness.specs.Faults.{part_words, shifts}
use Rattle.layouts.specs.SheetRules.{rounds_most}
use Rattle.layouts.specs.Tests.{all_false, at_none, none_true}
use Rattle.completeness.specs.Ready.{ready}
use Rattle.layouts.specs.Levels.{element_at, level_of, out_coin_count, round_count, round_start, rounds_of, sheet_field, sheet_root, words_for}
use Rattle.layouts.specs.Spellings.{begun_drop, begun_length, count_add, count_mono, count_one, count_zero, read_drop, read_length, read_words, read_written, words_length, words_read}
use Rattle.algebra.specs.FieldIn.{Below, sum_below, words_below, zero_below}
use Rattle.batches.proofs.AllowedBatches.{runs}
use Rattle.layouts.proofs.SheetLevels.{rules_back, rules_front, sheet_front}
use Rattle.completeness.specs.Openings.{in_tables}
use Rattle.batches.specs.Batched.{combined_table, fold_number, higher, higher_by, plain_words}
use Rattle.batches.specs.Reduction as reduction
use Rattle.batches.specs.Reduction.{Split, split}

-- ---- the first test that is true, past kinds that none is of

unfoldable pub moved : ℕ → Option ℕ → Option ℕ
moved k none = none
moved k (some q) = some (q + k)

pub first_moved : (a k : ℕ) (bs : List Bool) → first_true (a + k) bs ≡ moved k (first_true a bs)
unfolding first_true moved
first_moved a k [] = refl
first_moved a k (true ∷ bs) = refl
first_moved a k (false ∷ bs) = ap (λ (n : ℕ). first_true n bs) (let e : suc (a + k) ≡ suc a + k = omega arith in e) ∙ first_moved (suc a) k bs

-- two tests, one after the other
pub both_moved : (n m k : ℕ) (o p : Option ℕ) → (refuse_at n (moved k o) then refuse_at m (moved k p)) ≡ higher k (refuse_at n o then refuse_at m p)
unfolding refuse_at ◌then◌ higher moved
both_moved n m k none none = refl
both_moved n m k none (some q) = refl
both_moved n m k (some q) p = refl

pub tests_moved : (a k : ℕ) (bs cs : List Bool) → (refuse_at 7 (first_true (a + k) bs) then refuse_at 14 (first_true (a + k) cs)) ≡ higher k (refuse_at 7 (first_true a bs) then refuse_at 14 (first_true a cs))
tests_moved a k bs cs = (λ i. refuse_at 7 (first_moved a k bs i) then refuse_at 14 (first_moved a k cs i)) ∙ both_moved 7 14 k (first_true a bs) (first_true a cs)

-- messages, then a number of coins, in front of other kinds: rows over any elements
front_outs : (h : Sheet) (n from : ℕ) (ks : List Kind) (xs : List (Element h.spelling)) → n ≤ length xs →
    (first_true from (zip_with (out_in_domain h.spelling h) (replicate n message ++ ks) xs) ≡ first_true (from + n) (zip_with (out_in_domain h.spelling h) ks (drop n xs)))
    × (first_true from (repeated_outs (sheet_field h) none (replicate n message ++ ks) xs) ≡ first_true (from + n) (repeated_outs (sheet_field h) none ks (drop n xs)))
unfolding zip_with out_in_domain repeated_outs out_repeated out_before first_true
front_outs h zero from ks xs l = (ap (λ (m : ℕ). first_true m (zip_with (out_in_domain h.spelling h) ks xs)) (sym (add-zero from)), ap (λ (m : ℕ). first_true m (repeated_outs (sheet_field h) none ks xs)) (sym (add-zero from)))
front_outs h (suc n) from ks [] l = absurd (omega arith)
front_outs h (suc n) from ks (x ∷ xs) l =
    let r = front_outs h n (suc from) ks xs (omega arith) in
    let e : suc from + n ≡ from + suc n = omega arith in
    (r.0 ∙ ap (λ (m : ℕ). first_true m (zip_with (out_in_domain h.spelling h) ks (drop n xs))) e, r.1 ∙ ap (λ (m : ℕ). first_true m (repeated_outs (sheet_field h) none ks (drop n xs))) e)

pub front_coins : (h : Sheet) (n from : ℕ) (ks : List Kind) (xs : List (Element h.spelling)) → n ≤ length xs →
    (first_true from (zip_with (out_in_domain h.spelling h) (replicate n coin ++ ks) xs) ≡ first_true (from + n) (zip_with (out_in_domain h.spelling h) ks (drop n xs)))
    × (first_true from (repeated_outs (sheet_field h) none (replicate n coin ++ ks) xs) ≡ first_true (from + n) (repeated_outs (sheet_field h) none ks (drop n xs)))
unfolding zip_with out_in_domain repeated_outs out_repeated out_before first_true
front_coins h zero from ks xs l = (ap (λ (m : ℕ). first_true m (zip_with (out_in_domain h.spelling h) ks xs)) (sym (add-zero from)), ap (λ (m : ℕ). first_true m (repeated_outs (sheet_field h) none ks xs)) (sym (add-zero from)))
front_coins h (suc n) from ks [] l = absurd (omega arith)
front_coins h (suc n) from ks (x ∷ xs) l =
    let r = front_coins h n (suc from) ks xs (omega arith) in
    let e : suc from + n ≡ from + suc n = omega arith in
    (r.0 ∙ ap (λ (m : ℕ). first_true m (zip_with (out_in_domain h.spelling h) ks (drop n xs))) e, r.1 ∙ ap (λ (m : ℕ). first_true m (repeated_outs (sheet_field h) none ks (drop n xs))) e)

-- ---- the streams

-- enough words for so many elements
pub many : (σ : Spelling) (k : ℕ) (w : List ℕ) → word_count σ k ≤ length w → k ≤ length (elements_in σ w)
many σ k w l =
    omega (
      arith,
      ap length (ap (elements_in σ) (sym (take-append-drop (word_count σ k) w) ∙ ap (λ (t : List ℕ). t ++ drop (word_count σ k) w) (sym back)) ∙ read_words σ (elements_in σ (take (word_count σ k) w)) (drop (word_count σ k) w)),
      length-append (elements_in σ (take (word_count σ k) w)) (elements_in σ (drop (word_count σ k) w)),
      read_length σ k (take (word_count σ k) w) (length-take-le (word_count σ k) w l),
    )
  where
    back : words_of σ (elements_in σ (take (word_count σ k) w)) ≡ take (word_count σ k) w
    back = words_read σ k (take (word_count σ k) w) (length-take-le (word_count σ k) w l)

-- a batch's words: a sheet without a fault, and all words due
module _ (w : List ℕ) (passed : sheet_test edition1 w ≡ accepted) (some : 1 ≤ get_or w 12 0) (full : batch_words (sheet_of edition1 w) (get_or w 12 0) ≤ length w) where
  abbrev h : Sheet
  h = sheet_of edition1 w

  abbrev σ : Spelling
  σ = (sheet_of edition1 w).spelling

  abbrev N : ℕ
  N = get_or w 12 0

  abbrev first : Level
  first = first_level (sheet_of edition1 w)

  abbrev rest : List Kind
  rest = rest_layout (sheet_of edition1 w).spelling (sheet_of edition1 w).out_coins (first_level (sheet_of edition1 w)) (later_levels (sheet_of edition1 w))

  abbrev β : Batch (Element (sheet_of edition1 w).spelling)
  β = read_batch (sheet_of edition1 w).spelling (sheet_of edition1 w) (drop 12 w)

  abbrev table : List ℕ
  table = words_of (sheet_of edition1 w).spelling (combined_table (sheet_of edition1 w) (read_batch (sheet_of edition1 w).spelling (sheet_of edition1 w) (drop 12 w)))

  -- the words of n0 elements, of all tables and of one coin
  abbrev n : ℕ
  n = words_for (sheet_of edition1 w) (sheet_of edition1 w).size

  abbrev m : ℕ
  m = words_for (sheet_of edition1 w) (get_or w 12 0 * (sheet_of edition1 w).size)

  abbrev o : ℕ
  o = words_for (sheet_of edition1 w) 1

  -- the number of fold coin 0
  abbrev at : ℕ
  at = fold_number (sheet_of edition1 w) (get_or w 12 0)

  pub at_is : at ≡ batch_start N + (m + o)
  unfolding fold_number
  at_is = refl

  pub two_coins : words_for h 2 ≡ o + o
  two_coins = count_add σ 1 1

  pub long : (batch_start N ≡ 13 + N) × (at + o + length rest ≤ length w)
  unfolding batch_words batch_layout batch_start
  long = (
    omega arith,
    omega (
      arith,
      full,
      at_is,
      two_coins,
      length-append (replicate m message) (replicate (words_for h 2) coin ++ rest),
      length-append (replicate (words_for h 2) coin) rest,
      length-replicate m message,
      length-replicate (words_for h 2) coin,
    ),
  )

  front_long : length (take 12 w) ≡ 12
  front_long = length-take-le 12 w (omega (arith, long.0, long.1, at_is))

  front_passed : sheet_test edition1 (take 12 w) ≡ accepted
  front_passed = rules_back edition1 (take 12 w) front_long (drop 12 w) (ap (sheet_test edition1) (take-append-drop 12 w) ∙ passed)

  pub plain_passes : sheet_test edition1 (plain_words w) ≡ accepted
  unfolding plain_words
  plain_passes = rules_front edition1 (take 12 w) front_long front_passed _

  pub plain_sheet : sheet_of edition1 (plain_words w) ≡ sheet_of edition1 w
  unfolding plain_words
  plain_sheet = sheet_front edition1 (take 12 w) front_long front_passed _ ∙ sym (ap (sheet_of edition1) (sym (take-append-drop 12 w)) ∙ sheet_front edition1 (take 12 w) front_long front_passed (drop 12 w))

  entries_long : length (combined_table h β) ≡ h.size
  unfolding combined_table
  entries_long = length-map (range 0 h.size) _ ∙ range_length 0 h.size

  pub table_long : length table ≡ n
  table_long = words_length σ (combined_table h β) ∙ ap (words_for h) entries_long

  pub after_sheet : drop 12 (plain_words w) ≡ table ++ drop at w
  unfolding plain_words
  after_sheet = drop_at (take 12 w) (table ++ drop at w) 12 front_long

  after_table : drop n (drop 12 (plain_words w)) ≡ drop at w
  after_table = ap (drop n) after_sheet ∙ drop_at table (drop at w) n table_long

  ys_long : length (drop 12 (plain_words w)) ≡ n + (length w - at)
  ys_long = ap length after_sheet ∙ length-append table (drop at w) ∙ (λ i. table_long i + length-drop at w i)

  pub plain_due : words_due edition1 (sheet_of edition1 w) ≤ length (plain_words w)
  unfolding words_due layout
  plain_due = omega (
    arith,
    (count_one σ).0,
    length-drop 12 (plain_words w),
    ys_long,
    long.1,
    length-append (replicate n message) (replicate o coin ++ rest),
    length-append (replicate o coin) rest,
    length-replicate n message,
    length-replicate o coin,
  )

  number_there : get_or (drop 12 w) 0 0 ≡ N
  number_there = get_or-drop 12 w 0 0

  -- the words after the tables: r, fold coin 0, and the rest
  after_tables : drop (words_for h (get_or (drop 12 w) 0 0 * h.size)) (drop (suc (get_or (drop 12 w) 0 0)) (drop 12 w)) ≡ drop (batch_start N + m) w
  after_tables =
      ap (λ (k : ℕ). drop (words_for h (k * h.size)) (drop (suc k) (drop 12 w))) number_there
      ∙ ap (drop m) (drop-drop (suc N) 12 w) ∙ drop-drop m (12 + suc N) w ∙ ap (λ (k : ℕ). drop k w) (let e : 12 + suc N + m ≡ batch_start N + m = omega (arith, long.0) in e)

  tables_full : All (λ t. length t ≡ h.size) β.tables
  unfolding read_batch
  tables_full =
      subst (λ (k : ℕ). All (λ t. length t ≡ h.size) (chunks k h.size (elements_in σ (drop (suc k) (drop 12 w))))) (sym number_there)
      (chunk_sizes N h.size (elements_in σ (drop (suc N) (drop 12 w))) (many σ (N * h.size) (drop (suc N) (drop 12 w)) (omega (arith, length-drop (suc N) (drop 12 w), length-drop 12 w, long.0, long.1, at_is))))

  fold_is : β.fold ≡ get_or (elements_in σ (drop at w)) 0 (number_in σ 0)
  unfolding read_batch
  fold_is =
      ap (λ (l : List ℕ). get_or (elements_in σ l) 1 (number_in σ 0)) after_tables ∙ read_drop σ w (batch_start N + m) 1
      ∙ ap (element_at σ w) (let e : batch_start N + m + o ≡ at + words_for h 0 = omega (arith, at_is, count_zero σ) in e) ∙ sym (read_drop σ w at 0)

  rest_is : β.rest ≡ read_rest σ h.out_coins first (later_levels h) (drop (at + o) w)
  unfolding read_batch
  rest_is = ap (λ (l : List ℕ). read_rest σ h.out_coins first (later_levels h) (drop (words_for h 2) l)) after_tables
      ∙ ap (read_rest σ h.out_coins first (later_levels h)) (drop-drop (words_for h 2) (batch_start N + m) w ∙ ap (λ (k : ℕ). drop k w) (let e : batch_start N + m + words_for h 2 ≡ at + o = omega (arith, two_coins, at_is) in e))

  module _ (L : FieldLaws (sheet_field (sheet_of edition1 w))) where
    abbrev F : Field (Element (sheet_of edition1 w).spelling)
    F = sheet_field (sheet_of edition1 w)

    abbrev ω : Element (sheet_of edition1 w).spelling
    ω = sheet_root (sheet_of edition1 w)

    pub sizes : All (λ t. length t ≡ first.size) β.tables
    unfolding first_level
    sizes = tables_full

    table_is : elements_in σ (take n (drop 12 (plain_words w))) ≡ reduction.combined F L ω first β sizes
    unfolding combined_table reduction.combined first_level
    table_is = ap (λ (l : List ℕ). elements_in σ (take n l)) after_sheet ∙ ap (elements_in σ) (take_at table (drop at w) n table_long) ∙ read_written σ (combined_table h β)

    pub plain_transcript : read_transcript (sheet_of edition1 w).spelling (sheet_of edition1 w) (drop 12 (plain_words w)) ≡ reduction.plain F L ω first β sizes
    unfolding read_transcript
    plain_transcript = λ i. record {
      table = table_is i;
      fold = (ap (λ (l : List ℕ). get_or (elements_in σ l) 0 (number_in σ 0)) after_table ∙ sym fold_is) i;
      rest = (ap (λ (l : List ℕ). read_rest σ h.out_coins first (later_levels h) (drop o l)) after_table ∙ ap (read_rest σ h.out_coins first (later_levels h)) (drop-drop o at w) ∙ sym rest_is) i;
    }

    -- what both come to
    abbrev pub parts : Split F ω first (table_function F ω first (reduction.combined F L ω first β sizes)).value β.fold β.rest
    parts = split F ω β.rest first (table_function F ω first (reduction.combined F L ω first β sizes)).value β.fold

    pub both : (decide F ω first (read_transcript σ h (drop 12 (plain_words w))) ≡ record { outcome = parts.outcome; used = places_of first (own_place first) parts.indices ++ parts.later })
        × (decide_batch F ω first β ≡ record { outcome = parts.outcome; used = places_of first (in_tables (table_numbers N)) parts.indices ++ parts.later })
    unfolding read_batch
    both =
        let r = reduction.as_plain F L ω first β sizes parts in (
          ap (decide F ω first) plain_transcript ∙ r.0,
          r.1 ∙ (λ i. record { outcome = parts.outcome; used = places_of first (in_tables (table_numbers ((chunks_length (get_or (drop 12 w) 0 0) h.size (elements_in σ (drop (suc (get_or (drop 12 w) 0 0)) (drop 12 w))) ∙ number_there) i))) parts.indices ++ parts.later }),
        )

  -- the tests of out coins: the same coins, at numbers that are higher
  abbrev K : ℕ
  K = higher_by h N

  pub higher_is : 12 + n + o + K ≡ at + o
  unfolding higher_by
  higher_is = omega (arith, long.0, room)
    where
      more : n ≤ m
      more = count_mono σ h.size (N * h.size) (omega (arith, mul-le-mul_right h.size some, one-mul h.size))

      room : 12 + n ≤ at
      room = omega (arith, long.0, more, at_is)

  abbrev rows : ℕ → List Kind → List (Element (sheet_of edition1 w).spelling) → Outcome
  rows q ks xs = refuse_at 7 (first_true q (zip_with (out_in_domain (sheet_of edition1 w).spelling (sheet_of edition1 w)) ks xs)) then refuse_at 14 (first_true q (repeated_outs (sheet_field (sheet_of edition1 w)) none ks xs))

  -- past messages and coins
  rows_past : (q a b : ℕ) (ks : List Kind) (xs : List ℕ) → a + b ≤ length xs → rows q (replicate a message ++ (replicate b coin ++ ks)) (begun_by σ xs) ≡ rows (q + a + b) ks (begun_by σ (drop (a + b) xs))
  rows_past q a b ks xs l =
      let r = front_outs h a q (replicate b coin ++ ks) (begun_by σ xs) (omega (arith, begun_length σ xs)) in
      let s = front_coins h b (q + a) ks (drop a (begun_by σ xs)) (omega (arith, begun_length σ xs, length-drop a (begun_by σ xs))) in
      (λ i. refuse_at 7 ((r.0 ∙ s.0) i) then refuse_at 14 ((r.1 ∙ s.1) i))
      ∙ ap (rows (q + a + b) ks) (drop-drop b a (begun_by σ xs) ∙ begun_drop σ (a + b) xs)

  pub outs_higher : out_tests (sheet_of edition1 w) (batch_start (get_or w 12 0)) (batch_layout (sheet_of edition1 w) (get_or w 12 0)) w
      ≡ higher (higher_by (sheet_of edition1 w) (get_or w 12 0)) (out_tests (sheet_of edition1 w) 12 (layout (sheet_of edition1 w)) (plain_words w))
  unfolding out_tests out_test equal_test batch_layout layout
  outs_higher =
      rows_past (batch_start N) m (words_for h 2) rest (drop (batch_start N) w) (omega (arith, length-drop (batch_start N) w, long.1, at_is, two_coins))
      ∙ (λ i. rows (place i) rest (begun_by σ (words i)))
      ∙ tests_moved (12 + n + o) K _ _
      ∙ ap (higher K) (sym (rows_past 12 n o rest (drop 12 (plain_words w)) (omega (arith, ys_long, long.1)) ∙ ap (λ (l : List ℕ). rows (12 + n + o) rest (begun_by σ l)) others))
    where
      words : drop (m + words_for h 2) (drop (batch_start N) w) ≡ drop (at + o) w
      words = drop-drop (m + words_for h 2) (batch_start N) w ∙ ap (λ (k : ℕ). drop k w) (let e : batch_start N + (m + words_for h 2) ≡ at + o = omega (arith, two_coins, at_is) in e)

      place : batch_start N + m + words_for h 2 ≡ 12 + n + o + K
      place = omega (arith, higher_is, two_coins, at_is)

      others : drop (n + o) (drop 12 (plain_words w)) ≡ drop (at + o) w
      others = sym (drop-drop o n (drop 12 (plain_words w))) ∙ ap (drop o) after_table ∙ drop-drop o at w

-- rows of tests, past kinds of one sort
zip_later : (t : Kind → ℕ → Bool) (n : ℕ) (k : Kind) (ks : List Kind) (xs : List ℕ) → n ≤ length xs → All (λ (b : Bool). b ≡ false) (zip_with t (replicate n k ++ ks) xs) → All (λ (b : Bool). b ≡ false) (zip_with t ks (drop n xs))
unfolding zip_with
zip_later t zero k ks xs l h = h
zip_later t (suc n) k ks [] l h = absurd (omega arith)
zip_later t (suc n) k ks (x ∷ xs) l h = zip_later t n k ks xs (omega arith) h.1

zip_front : (t : Kind → ℕ → Bool) (n : ℕ) (k : Kind) (ks : List Kind) (xs ys : List ℕ) → length xs ≡ n → All (λ x. t k x ≡ false) xs → All (λ (b : Bool). b ≡ false) (zip_with t ks ys) →
    All (λ (b : Bool). b ≡ false) (zip_with t (replicate n k ++ ks) (xs ++ ys))
unfolding zip_with
zip_front t zero k ks [] ys e h g = g
zip_front t zero k ks (x ∷ xs) ys e h g = absurd (omega arith)
zip_front t (suc n) k ks [] ys e h g = absurd (omega arith)
zip_front t (suc n) k ks (x ∷ xs) ys e h g = (h.0, zip_front t n k ks xs ys (omega arith) h.1 g)

-- combined values are elements
below : (σ : Spelling) (p : ℕ) → 0 < p → (d n : ℕ) (r x : Element σ) (bs : List ℕ) (ys : List (Element σ)) → Below σ p (combine_at (field_in σ p) d n r x bs ys)
unfolding combine_at
below σ p l d n r x [] ys = zero_below σ p l
below σ p l d n r x (b ∷ bs) [] = zero_below σ p l
below σ p l d n r x (b ∷ bs) (y ∷ ys) = sum_below σ p l _ _

pub combined_below : (h : Sheet) (β : Batch (Element h.spelling)) → 0 < h.prime → All (λ x. out_of_range h message x ≡ false) (words_of h.spelling (combined_table h β))
unfolding combined_table batch_function out_of_range limit
combined_below h β positive =
    all_map (words_of h.spelling (combined_table h β)) (words_below h.spelling h.prime (combined_table h β)
    (all_of_map _ _ (range 0 h.size) (everywhere (range 0 h.size) (λ j. below h.spelling h.prime positive (first_level h).degree 0 β.combination (point (sheet_field h) (sheet_root h) (first_level h) j) β.bounds _))))
    (λ x l. lt-leb h.prime x l)

first_number : (h : Sheet) → (first_level h).number ≡ 0
unfolding first_level
first_number h = refl

-- every round read from words has its level's number
levels_read : (h : Sheet) (m i : ℕ) → i + m ≡ rounds_of h → rounds_of h ≤ 5 → (w : List ℕ) → reduction.Numbered (read_rest h.spelling (out_coin_count h) (level_of h i) (map (level_of h) (range (suc i) m)) w)
unfolding read_rest range round_coins
levels_read h zero i e few w = tt
levels_read h (suc m) i e few w = ((omega arith, omega arith), levels_read h m (suc i) (omega arith) few _)

-- the rest of a plain transcript, by number
rest_read : (h : Sheet) (v : List ℕ) → Paired h → (read_transcript h.spelling h (drop 12 v)).rest ≡ rest_after edition1 h v 0 (rounds_of h)
unfolding read_transcript first_level round_start round_count
rest_read h v long =
    let n = words_for h (level_of h 0).size in
    (λ x. read_rest h.spelling (out_coin_count h) (level_first h x) (levels_later h long x) (drop (words_for h 1) (drop (words_for h (level_first h x).size) (drop 12 v))))
    ∙ ap (read_rest h.spelling (out_coin_count h) (level_of h 0) (map (level_of h) (range 1 (rounds_of h))))
    (ap (drop (words_for h 1)) (drop-drop n 12 v) ∙ drop-drop (words_for h 1) (12 + n) v ∙ ap (λ (m : ℕ). drop m v) (add_assoc 12 n (words_for h 1)))

final_later : (h : Sheet) (v : List ℕ) (m : ℕ) → m ≡ 0 → (js : List ℕ) (later : List Place) → reduction.FirstIndices (rest_after edition1 h v 0 m) js later → later ≡ []
unfolding read_rest range
final_later h v zero e js later f = f
final_later h v (suc m) e js later f = absurd (omega arith)

round_indices : (h : Sheet) (v : List ℕ) (m : ℕ) → 1 ≤ m → (js : List ℕ) (later : List Place) → reduction.FirstIndices (rest_after edition1 h v 0 m) js later → js ≡ part_words edition1 h v (shifts 0)
round_indices h v zero e js later f = absurd (omega arith)
round_indices h v (suc m) e js later f = subst (λ (r : Rest (Element h.spelling)). reduction.FirstIndices r js later) (rest_round edition1 h v 0 m) f

-- a batch has as many words more than a plain stream with its sheet
pub words_higher : (h : Sheet) (count : ℕ) → 1 ≤ count → batch_words h count ≡ words_due edition1 h + higher_by h count
unfolding batch_words batch_layout batch_start words_due layout higher_by fold_number
words_higher h count l =
    let σ = h.spelling in
    let rest = rest_layout σ h.out_coins (first_level h) (later_levels h) in
    let n = words_for h h.size in
    let m = words_for h (count * h.size) in
    let two : words_for h 2 ≡ words_for h 1 + words_for h 1 = count_add σ 1 1 in
    let most : n ≤ m = count_mono σ h.size (count * h.size) (omega (arith, mul-le-mul_right h.size l, one-mul h.size)) in
    omega (
      arith,
      two,
      most,
      length-append (replicate m message) (replicate (words_for h 2) coin ++ rest),
      length-append (replicate (words_for h 2) coin) rest,
      length-append (replicate n message) (replicate (words_for h 1) coin ++ rest),
      length-append (replicate (words_for h 1) coin) rest,
      length-replicate m message,
      length-replicate n message,
      length-replicate (words_for h 2) coin,
      length-replicate (words_for h 1) coin,
    )

-- BATCHES BY PLAIN RUNS. Of a batch's words with a sheet without a fault, 1 to 8 tables and all words due: the tests of out coins find what they find in the plain
-- stream, at numbers that are higher; past them the outcome is the plain one, and the reads of level 0 count once for each table.
module _ (w : List ℕ) (passed : sheet_test edition1 w ≡ accepted) (some : 1 ≤ get_or w 12 0) (full : batch_words (sheet_of edition1 w) (get_or w 12 0) ≤ length w) where
  abbrev g : Sheet
  g = sheet_of edition1 w

  pub enough : 12 ≤ length w
  enough = omega (arith, (long w passed some full).0, (long w passed some full).1, at_is w passed some full)

  pub field_laws : FieldLaws (sheet_field (sheet_of edition1 w))
  field_laws = (ready edition1 w enough passed).laws

  -- the indices of level 0 that are treated
  pub first_treated : List ℕ
  first_treated = (parts w passed some full field_laws).indices

  few : rounds_of g ≤ 5
  few = omega (arith, rounds_word edition1 w enough passed, rounds_most edition1 w passed)

  rounds_numbered : reduction.Numbered (read_batch g.spelling g (drop 12 w)).rest
  rounds_numbered =
      subst reduction.Numbered (sym (rest_is w passed some full ∙ (λ i. read_rest g.spelling g.out_coins (level_first g i) (levels_later g (lawful edition1 w enough passed).paired i) (drop (fold_number g (get_or w 12 0) + words_for g 1) w))))
      (levels_read g (rounds_of g) 0 (omega arith) few _)

  pub batch_outcome : out_tests (sheet_of edition1 w) 12 (layout (sheet_of edition1 w)) (plain_words w) ≡ accepted → (batch_deciding w).outcome ≡ (deciding edition1 (plain_words w)).outcome
  unfolding batch_deciding deciding counted then_verdict higher
  batch_outcome o =
      let b = both w passed some full field_laws in
      ap (λ (x : Outcome). (then_verdict x (counted (decide_batch (sheet_field g) (sheet_root g) (first_level g) (read_batch g.spelling g (drop 12 w))))).outcome) (outs_higher w passed some full ∙ ap (higher (higher_by g (get_or w 12 0))) o)
      ∙ ap (λ (d : Decision). d.outcome) b.1 ∙ sym (ap (λ (d : Decision). d.outcome) b.0)
      ∙ sym (plain_deciding o)
    where
      plain_deciding : out_tests g 12 (layout g) (plain_words w) ≡ accepted →
          (deciding edition1 (plain_words w)).outcome ≡ (decide (sheet_field g) (sheet_root g) (first_level g) (read_transcript g.spelling g (drop 12 (plain_words w)))).outcome
      plain_deciding q =
          ap (λ (s : Sheet). (then_verdict (out_tests s 12 (layout s) (plain_words w)) (counted (decide (sheet_field s) (sheet_root s) (first_level s) (read_transcript s.spelling s (drop 12 (plain_words w)))))).outcome) (plain_sheet w passed some full)
          ∙ ap (λ (x : Outcome). (then_verdict x (counted (decide (sheet_field g) (sheet_root g) (first_level g) (read_transcript g.spelling g (drop 12 (plain_words w)))))).outcome) q

  pub batch_reads_lem : out_tests (sheet_of edition1 w) 12 (layout (sheet_of edition1 w)) (plain_words w) ≡ accepted →
      (batch_deciding w).reads + reads_of (places_of (first_level (sheet_of edition1 w)) (own_place (first_level (sheet_of edition1 w))) first_treated)
      ≡ (deciding edition1 (plain_words w)).reads + get_or w 12 0 * reads_of (places_of (first_level (sheet_of edition1 w)) (own_place (first_level (sheet_of edition1 w))) first_treated)
  unfolding batch_deciding deciding counted then_verdict higher first_treated
  batch_reads_lem o =
      let b = both w passed some full field_laws in
      let p = parts w passed some full field_laws in
      let N = get_or w 12 0 in
      let R = reads_of (places_of (first_level g) (own_place (first_level g)) p.indices) in
      ap (λ (n : ℕ). n + R) (ap (λ (x : Outcome). (then_verdict x (counted (decide_batch (sheet_field g) (sheet_root g) (first_level g) (read_batch g.spelling g (drop 12 w))))).reads) (outs_higher w passed some full ∙ ap (higher (higher_by g N)) o)
      ∙ ap (λ (d : Decision). reads_of d.used) b.1)
      ∙ reduction.times_reads (first_level g) p.indices p.later N zeroth (p.later_in rounds_numbered)
      ∙ ap (λ (n : ℕ). n + N * R) (sym (ap (λ (d : Decision). reads_of d.used) b.0))
      ∙ ap (λ (n : ℕ). n + N * R) (sym (plain_deciding o))
    where
      zeroth : (first_level g).number ≡ 0
      zeroth = first_number g

      plain_deciding : out_tests g 12 (layout g) (plain_words w) ≡ accepted →
          (deciding edition1 (plain_words w)).reads ≡ reads_of (decide (sheet_field g) (sheet_root g) (first_level g) (read_transcript g.spelling g (drop 12 (plain_words w)))).used
      plain_deciding q =
          ap (λ (s : Sheet). (then_verdict (out_tests s 12 (layout s) (plain_words w)) (counted (decide (sheet_field s) (sheet_root s) (first_level s) (read_transcript s.spelling s (drop 12 (plain_words w)))))).reads) (plain_sheet w passed some full)
          ∙ ap (λ (x : Outcome). (then_verdict x (counted (decide (sheet_field g) (sheet_root g) (first_level g) (read_transcript g.spelling g (drop 12 (plain_words w)))))).reads) q

  -- without a round all places are level 0's; else the indices are the shift indices of round 1
  pub first_treated_lem : reduction.FirstIndices (read_batch (sheet_of edition1 w).spelling (sheet_of edition1 w) (drop 12 w)).rest first_treated (parts w passed some full field_laws).later
  unfolding first_treated
  first_treated_lem = (parts w passed some full field_laws).first

  plain_reads : out_tests (sheet_of edition1 w) 12 (layout (sheet_of edition1 w)) (plain_words w) ≡ accepted →
      (deciding edition1 (plain_words w)).reads ≡ reads_of (places_of (first_level (sheet_of edition1 w)) (own_place (first_level (sheet_of edition1 w))) first_treated ++ (parts w passed some full field_laws).later)
  unfolding deciding counted then_verdict first_treated
  plain_reads q =
      ap (λ (s : Sheet). (then_verdict (out_tests s 12 (layout s) (plain_words w)) (counted (decide (sheet_field s) (sheet_root s) (first_level s) (read_transcript s.spelling s (drop 12 (plain_words w)))))).reads) (plain_sheet w passed some full)
      ∙ ap (λ (x : Outcome). (then_verdict x (counted (decide (sheet_field g) (sheet_root g) (first_level g) (read_transcript g.spelling g (drop 12 (plain_words w)))))).reads) q
      ∙ ap (λ (d : Decision). reads_of d.used) (both w passed some full field_laws).0

  -- the rest of the batch, by number in the plain stream
  rest_number : (read_batch (sheet_of edition1 w).spelling (sheet_of edition1 w) (drop 12 w)).rest ≡ rest_after edition1 (sheet_of edition1 w) (plain_words w) 0 (rounds_of (sheet_of edition1 w))
  rest_number =
      sym (ap (λ (t : Transcript (Element g.spelling)). t.rest) (plain_transcript w passed some full field_laws))
      ∙ rest_read g (plain_words w) (lawful edition1 w enough passed).paired

  -- the places of level 0 that deciding the plain stream uses, where there is no round, are all
  pub reads_no_round : out_tests (sheet_of edition1 w) 12 (layout (sheet_of edition1 w)) (plain_words w) ≡ accepted → rounds_of (sheet_of edition1 w) ≡ 0 →
      (batch_deciding w).reads ≡ get_or w 12 0 * (deciding edition1 (plain_words w)).reads
  reads_no_round o e =
      let l = final_later g (plain_words w) (rounds_of g) e first_treated _ (subst (λ (r : Rest (Element g.spelling)). reduction.FirstIndices r first_treated (parts w passed some full field_laws).later) rest_number first_treated_lem) in
      let q : (deciding edition1 (plain_words w)).reads ≡ R = plain_reads o ∙ ap (λ (ps : List Place). reads_of (places_of (first_level g) (own_place (first_level g)) first_treated ++ ps)) l ∙ ap reads_of (append-nil _) in
      let s : (batch_deciding w).reads ≡ get_or w 12 0 * R = omega (arith, batch_reads_lem o, q) in
      s ∙ ap (λ (n : ℕ). get_or w 12 0 * n) (sym q)
    where
      R : ℕ
      R = reads_of (places_of (first_level g) (own_place (first_level g)) first_treated)

  pub reads_rounds : out_tests (sheet_of edition1 w) 12 (layout (sheet_of edition1 w)) (plain_words w) ≡ accepted → 1 ≤ rounds_of (sheet_of edition1 w) →
      (batch_deciding w).reads + reads_of (places_of (level_of (sheet_of edition1 w) 0) (own_place (level_of (sheet_of edition1 w) 0)) (part_words edition1 (sheet_of edition1 w) (plain_words w) (shifts 0)))
      ≡ (deciding edition1 (plain_words w)).reads
      + get_or w 12 0 * reads_of (places_of (level_of (sheet_of edition1 w) 0) (own_place (level_of (sheet_of edition1 w) 0)) (part_words edition1 (sheet_of edition1 w) (plain_words w) (shifts 0)))
  reads_rounds o e =
      let l = round_indices g (plain_words w) (rounds_of g) e first_treated _ (subst (λ (r : Rest (Element g.spelling)). reduction.FirstIndices r first_treated (parts w passed some full field_laws).later) rest_number first_treated_lem) in
      let q : reads_of (places_of (first_level g) (own_place (first_level g)) first_treated) ≡ reads_of (places_of (level_of g 0) (own_place (level_of g 0)) (part_words edition1 g (plain_words w) (shifts 0))) =
      λ i. reads_of (places_of (level_first g i) (own_place (level_first g i)) (l i)) in
      subst (λ (n : ℕ). (batch_deciding w).reads + n ≡ (deciding edition1 (plain_words w)).reads + get_or w 12 0 * n) q (batch_reads_lem o)

  -- THE PLAIN STREAM IS IN RANGE where the batch's words are.
  pub plain_range : range_test (sheet_of edition1 w) (batch_start (get_or w 12 0)) (batch_layout (sheet_of edition1 w) (get_or w 12 0)) w ≡ accepted → range_test (sheet_of edition1 w) 12 (layout (sheet_of edition1 w)) (plain_words w) ≡ accepted
  unfolding range_test batch_layout layout
  plain_range e =
      at_none 5 _ (none_true 12 _ (subst (λ (l : List ℕ). All (λ (b : Bool). b ≡ false) (zip_with (out_of_range g) (replicate (words_for g g.size) message ++ (replicate one₁ coin ++ kinds)) l)) (sym (after_sheet w passed some full))
      (zip_front (out_of_range g) (words_for g g.size) message (replicate one₁ coin ++ kinds) (table w passed some full) (drop (at w passed some full) w) (table_long w passed some full) entries
      (subst (λ (l : List ℕ). All (λ (b : Bool). b ≡ false) (zip_with (out_of_range g) (replicate one₁ coin ++ kinds) l)) there
      (zip_later (out_of_range g) one₁ coin (replicate one₁ coin ++ kinds) (drop m₁ (drop (batch_start N₁) w))
      (omega (arith, length-drop m₁ (drop (batch_start N₁) w), length-drop (batch_start N₁) w, (long w passed some full).1, at_is w passed some full))
      (subst (λ (l : List Kind). All (λ (b : Bool). b ≡ false) (zip_with (out_of_range g) l (drop m₁ (drop (batch_start N₁) w)))) split_coins
      (zip_later (out_of_range g) m₁ message (replicate (words_for g 2) coin ++ kinds) (drop (batch_start N₁) w) (omega (arith, length-drop (batch_start N₁) w, (long w passed some full).1, at_is w passed some full)) (all_false 5 (batch_start N₁) _ e))))))))
    where
      N₁ : ℕ
      N₁ = get_or w 12 0

      m₁ : ℕ
      m₁ = words_for g (get_or w 12 0 * g.size)

      one₁ : ℕ
      one₁ = words_for g 1

      kinds : List Kind
      kinds = rest_layout g.spelling g.out_coins (first_level g) (later_levels g)

      split_coins : replicate (words_for g 2) coin ++ rest_layout g.spelling g.out_coins (first_level g) (later_levels g)
          ≡ replicate (words_for g 1) coin ++ (replicate (words_for g 1) coin ++ rest_layout g.spelling g.out_coins (first_level g) (later_levels g))
      split_coins = ap (λ (k : ℕ). replicate k coin ++ kinds) (count_add g.spelling 1 1) ∙ ap (λ (ks : List Kind). ks ++ kinds) (runs one₁ one₁ coin) ∙ append_assoc (replicate one₁ coin) (replicate one₁ coin) kinds

      entries : All (λ x. out_of_range g message x ≡ false) (words_of g.spelling (combined_table g (read_batch g.spelling g (drop 12 w))))
      entries = combined_below g (read_batch g.spelling g (drop 12 w)) (omega (arith, (ready edition1 w enough passed).large))

      there : drop (words_for g 1) (drop (words_for g (get_or w 12 0 * g.size)) (drop (batch_start (get_or w 12 0)) w)) ≡ drop (at w passed some full) w
      there = drop-drop one₁ m₁ (drop (batch_start N₁) w) ∙ drop-drop (m₁ + one₁) (batch_start N₁) w ∙ ap (λ (k : ℕ). drop k w) (sym (at_is w passed some full))
