-- The honest prover's batch: its words are of their kinds and in range, reading them back gives the batch, and its file passes reading and the tests of out coins.
use Prim.Native.Nat.{ℕ, zero, suc, ◌+◌, ◌*◌, ◌/◌, ◌≤◌, ◌<◌}
use Rattle.std.proofs.Common.{suc-mul, zero-mul, arith, ◌∙◌, drop-drop, get_or-append-add, take_at, take_all}
use Rattle.std.proofs.Math.Bool.{not}
use Rattle.std.specs.Prelude.{◌&&◌, ◌≡◌, take}
use mathlib.Core.List.{List, [], ◌∷◌, ◌++◌, map, flat_map, zip_with, append_assoc}
use Rattle.std.proofs.Math.Option.{none}
use Rattle.std.proofs.Math.Path.{refl, sym, ap, subst}
use Rattle.std.proofs.Math.Dec.{leb}
use Rattle.std.proofs.Math.ListN.{length, get_or, drop, replicate, length-append, get_or-append}
use Rattle.std.proofs.lemmas.List.{length-replicate}
use Rattle.std.proofs.Math.Seq.{drop_at}
use Rattle.batch_definition.specs.Batch.{Batch, batch_layout, batch_reading, batch_rules, batch_start, batch_test, batch_tests, batch_words, combine_poly, cut_by, honest_batch, most_entries, read_batch}
use Rattle.definition.specs.Block.{block_count, file_of, stream_of}
use Rattle.definition.specs.Deciding.{equal_test, out_in_domain, out_test, repeated_outs}
use Rattle.definition.specs.Field.{Element, Field, Spelling, begun_by, elements_in, four, number_in, one, word_count, words_of}
use Rattle.definition.specs.Layout.{Kind, coin, coin_kinds, layout, limit, message, read_coins, read_rest, rest_layout}
use Rattle.definition.specs.Lists.{chunks, first_true}
use Rattle.definition.specs.Domain.{point}
use Rattle.definition.specs.Polynomial.{evaluate}
use Rattle.algebra.specs.FieldIn.{zero_in}
use Rattle.definition.specs.Prover.{honest, honest_rest, table_of}
use Rattle.definition.specs.Reading.{body_tests, check_test, length_test, sheet_test}
use Rattle.definition.specs.Sheet.{Level, Sheet, between, edition1, first_level, later_levels, sheet_of}
use Rattle.definition.specs.Transcript.{Coins, Transcript, rest_words, transcript_words}
use Rattle.definition.specs.Verdict.{◌then◌, accepted, refuse_at}
use Rattle.list_laws.specs.All.{All, all_append, all_map, all_replicate, all_right, at_place}
use Rattle.layouts.specs.EachWord.{Each, Front, InRange, Outside, begun_quiet, each_append_at, each_join, each_length, front_at, front_none}
use Rattle.layouts.specs.FileTrip.{Word, fill_count}
use Rattle.layouts.specs.Levels.{element_at, sheet_field, sheet_root, words_for}
use Rattle.layouts.proofs.SheetLevels.{rules_front, sheet_front}
use Rattle.layouts.specs.SheetRules.{sheet_words_lem}
use Rattle.layouts.specs.Spellings.{begun_drop, count_add, count_zero, one_back, read_drop, read_words, words_append, words_length}
use Rattle.layouts.specs.Tests.{at_none, none_true}
use Rattle.layouts.specs.WholeCoins.{Whole, layout_whole}
use Rattle.completeness.proofs.AdmissibleCoins.{admissible}
use Rattle.completeness.specs.DecidingAccepts.{Admissible, table_at, table_length}
use Rattle.completeness.specs.EqualOuts.{NoRepeat, among_coins, among_front, among_messages, coins_among, stream_apart}
use Rattle.completeness.specs.FileRead.{words_of_kinds}
use Rattle.completeness.specs.HonestStream.{rest_shaped, table_each, words_coins, words_each, words_off}
use Rattle.completeness.specs.Ready.{Ready, layout_fits, ready}
use Rattle.completeness.specs.RoundTrip.{round_trip}
use Rattle.batches.proofs.AllowedBatches.{batch_apart, batch_bounds, batch_enough, batch_long, batch_number, batch_off, batch_runs, batch_some, batch_sum, combination_passes, cut_bounded, cut_count, cut_lengths, first_passes, runs}
use Rattle.batches.proofs.BatchAccepts.{honest_of}
use Rattle.batches.specs.Batched.{AllowedBatch}
use Rattle.batches.proofs.Combination.{combine_length}
use Rattle.batches.specs.FrontAndBody

-- the kinds of the words after fold coin 0
abbrev rest : Sheet → List Kind
rest h = rest_layout h.spelling h.out_coins (first_level h) (later_levels h)

-- tables one after the other, cut again
chunks_tables : {A B : Type 0} (f : A → List B) (n : ℕ) (xs : List A) (z : List B) → ((x : A) → length (f x) ≡ n) → chunks (length xs) n (flat_map f xs ++ z) ≡ map f xs
unfolding chunks flat_map
chunks_tables f n [] z e = refl
chunks_tables {A} {B} f n (x ∷ xs) z e =
    let q = append_assoc (f x) (flat_map f xs) z in
    (λ i. take n (q i) ∷ chunks (length xs) n (drop n (q i)))
    ∙ (λ i. take_at (f x) (flat_map f xs ++ z) n (e x) i ∷ chunks (length xs) n (drop_at (f x) (flat_map f xs ++ z) n (e x) i))
    ∙ ap {B = List (List B)} (λ t. f x ∷ t) (chunks_tables f n xs z e)

tables_length : {A B : Type 0} (f : A → List B) (n : ℕ) (xs : List A) → ((x : A) → length (f x) ≡ n) → length (flat_map f xs) ≡ length xs * n
unfolding flat_map
tables_length f n [] e = omega arith
tables_length f n (x ∷ xs) e = length-append (f x) (flat_map f xs) ∙ omega (arith, e x, tables_length f n xs e, suc-mul (length xs) n)

tables_each : {A : Type 0} (R : Kind → ℕ → Type 0) (σ : Spelling) (f : A → List ℕ) (n : ℕ) (fs : List A) → ((g : A) → Each R (replicate (word_count σ n) message) (f g)) →
    Each R (replicate (word_count σ (length fs * n)) message) (flat_map f fs)
unfolding flat_map
tables_each R σ f n [] e = subst (λ (m : ℕ). Each R (replicate m message) []) (sym (ap (word_count σ) (zero-mul n) ∙ count_zero σ)) tt
tables_each R σ f n (g ∷ fs) e =
    subst (λ (ks : List Kind). Each R ks (f g ++ flat_map f fs)) (sym (ap (λ (i : ℕ). replicate i message) (ap (word_count σ) (suc_mul_left (length fs) n) ∙ count_add σ n (length fs * n)) ∙ runs (word_count σ n) (word_count σ (length fs * n)) message))
    (each_join R (replicate (word_count σ n) message) _ (f g) _ (e g) (tables_each R σ f n fs e))
  where
    suc_mul_left : (a b : ℕ) → suc a * b ≡ b + a * b
    suc_mul_left a b = omega (arith, suc-mul a b)

in_table : {A B : Type 0} (d : B) (o : A) (f : A → List B) (n : ℕ) (xs : List A) (z : List B) → ((x : A) → length (f x) ≡ n) → (m j : ℕ) → m < length xs → j < n →
    get_or (flat_map f xs ++ z) (m * n + j) d ≡ get_or (f (get_or xs m o)) j d
unfolding flat_map
in_table d o f n [] z e m j l u = absurd (omega arith)
in_table {A} {B} d o f n (x ∷ xs) z e zero j l u =
    ap (λ (t : List B). get_or t (0 * n + j) d) (append_assoc (f x) (flat_map f xs) z) ∙ ap (λ (k : ℕ). get_or (f x ++ (flat_map f xs ++ z)) k d) (let q : 0 * n + j ≡ j = omega (arith, zero-mul n) in q)
    ∙ get_or-append (f x) (flat_map f xs ++ z) d j (omega (arith, e x))
in_table {A} {B} d o f n (x ∷ xs) z e (suc m) j l u =
    let q : suc m * n + j ≡ length (f x) + (m * n + j) = omega (arith, suc-mul m n, e x) in
    ap (λ (t : List B). get_or t (suc m * n + j) d) (append_assoc (f x) (flat_map f xs) z) ∙ ap (λ (k : ℕ). get_or (f x ++ (flat_map f xs ++ z)) k d) q
    ∙ get_or-append-add (f x) (flat_map f xs ++ z) (m * n + j) d ∙ in_table d o f n xs z e m j (omega arith) u

-- the words of tables, read
tables_read : {A : Type 0} (σ : Spelling) (t : A → List (Element σ)) (fs : List A) (z : List ℕ) → elements_in σ (flat_map (λ g. words_of σ (t g)) fs ++ z) ≡ flat_map t fs ++ elements_in σ z
unfolding flat_map
tables_read σ t [] z = refl
tables_read σ t (g ∷ fs) z =
    ap (elements_in σ) (append_assoc (words_of σ (t g)) (flat_map (λ k. words_of σ (t k)) fs) z) ∙ read_words σ (t g) (flat_map (λ k. words_of σ (t k)) fs ++ z)
    ∙ ap (λ (x : List (Element σ)). t g ++ x) (tables_read σ t fs z) ∙ sym (append_assoc (t g) (flat_map t fs) (elements_in σ z))

-- out coins stay whole behind words of other kinds
whole_messages : (σ : Spelling) (n : ℕ) (ks : List Kind) → Whole σ ks → Whole σ (replicate n message ++ ks)
whole_messages one n ks h = tt
whole_messages four zero ks h = h
whole_messages four (suc n) ks h = whole_messages four n ks h

whole_coins : (σ : Spelling) (n : ℕ) (ks : List Kind) → Whole σ ks → Whole σ (replicate n coin ++ ks)
whole_coins one n ks h = tt
whole_coins four zero ks h = h
whole_coins four (suc n) ks h = whole_coins four n ks h

whole_past : (σ : Spelling) (n m : ℕ) (ks : List Kind) → Whole σ (replicate n message ++ (replicate m coin ++ ks)) → Whole σ ks
whole_past one n m ks h = tt
whole_past four zero zero ks h = h
whole_past four zero (suc m) ks h = whole_past four zero m ks h
whole_past four (suc n) m ks h = whole_past four n m ks h

first_size : (h : Sheet) → (first_level h).size ≡ h.size
unfolding first_level
first_size h = refl

module _ {w bounds f coins : List ℕ} (ok : AllowedBatch w bounds f coins) where
  abbrev h : Sheet
  h = sheet_of edition1 w

  abbrev σ : Spelling
  σ = (sheet_of edition1 w).spelling

  abbrev F : Field (Element (sheet_of edition1 w).spelling)
  F = sheet_field (sheet_of edition1 w)

  abbrev ω : Element (sheet_of edition1 w).spelling
  ω = sheet_root (sheet_of edition1 w)

  abbrev N : ℕ
  N = length bounds

  abbrev first : Level
  first = first_level (sheet_of edition1 w)

  abbrev fs : List (List (Element (sheet_of edition1 w).spelling))
  fs = cut_by bounds (elements_in (sheet_of edition1 w).spelling f)

  abbrev r : Element (sheet_of edition1 w).spelling
  r = get_or (elements_in (sheet_of edition1 w).spelling coins) 0 (number_in (sheet_of edition1 w).spelling 0)

  abbrev plain : List ℕ
  plain = drop (words_for (sheet_of edition1 w) 1) coins

  abbrev c : Coins (Element (sheet_of edition1 w).spelling)
  c = read_coins (sheet_of edition1 w).spelling (sheet_of edition1 w) (drop (words_for (sheet_of edition1 w) 1) coins)

  abbrev g : List (Element (sheet_of edition1 w).spelling)
  g = combine_poly F (first_level (sheet_of edition1 w)).degree 0 r fs

  abbrev pub sheet_ready : Ready (sheet_of edition1 w)
  sheet_ready = ready edition1 w (batch_enough ok) ok.sheet

  -- the honest batch
  abbrev pub β : Batch (Element (sheet_of edition1 w).spelling)
  β = honest_of (sheet_field (sheet_of edition1 w)) sheet_ready.laws (sheet_root (sheet_of edition1 w)) (first_level (sheet_of edition1 w)) fs r c.fold c.rounds c.finals

  positive : 0 < h.prime
  positive = omega (arith, sheet_ready.large)

  -- the coins after r are fair, and the combined polynomial is below d0
  pub admissible_coins : Admissible F sheet_ready.laws ω first c.rounds c.finals
  unfolding read_coins
  admissible_coins =
      admissible h sheet_ready.laws sheet_ready.signs sheet_ready.e sheet_ready.root
      h.out_coins first (later_levels h) (drop (words_for h 1) plain) sheet_ready.chain sheet_ready.steps (batch_runs ok) (batch_off ok)

  pub cut_below : All (λ p. (0 < length p) × (length p ≤ (first_level (sheet_of edition1 w)).degree)) fs
  unfolding first_level
  cut_below = cut_bounded ok

  pub combined_length : length g ≡ first.degree
  combined_length = combine_length F first.degree 0 r fs cut_below

  combined_degree : length g ≡ h.degree
  unfolding first_level
  combined_degree = combined_length

  -- the plain transcript of the combined polynomial, its table and what follows it
  abbrev τ : Transcript (Element (sheet_of edition1 w).spelling)
  τ = honest F ω (first_level (sheet_of edition1 w)) g c

  abbrev tbl : List ℕ
  tbl = words_of σ (table_of F ω first g)

  abbrev tail : List ℕ
  tail = words_of σ (c.fold ∷ []) ++ rest_words σ (honest_rest F ω first g c.fold c.rounds c.finals)

  table_long : (p : List (Element (sheet_of edition1 w).spelling)) → length (words_of σ (table_of F ω first p)) ≡ words_for h h.size
  table_long p = words_length σ (table_of F ω first p) ∙ ap (word_count σ) (table_length F ω first p ∙ first_size h)

  transcript_is : transcript_words σ τ ≡ tbl ++ tail
  unfolding transcript_words honest
  transcript_is = refl

  tail_each : Each (InRange h) (replicate (words_for h 1) coin ++ rest h) tail
  unfolding read_coins layout
  tail_each =
      subst (Each (InRange h) (replicate (words_for h 1) coin ++ rest h)) (ap (drop (words_for h h.size)) transcript_is ∙ drop_at tbl tail (words_for h h.size) (table_long g))
      (each_append_at (InRange h) (words_for h h.size) (replicate (words_for h h.size) message) _ (transcript_words σ τ) (length-replicate (words_for h h.size) message)
      (words_each h positive sheet_ready.laws g plain combined_degree (first_passes ok) (batch_some ok).1 (batch_runs ok) admissible_coins)).1

  -- the words after the bounds
  abbrev tables : List ℕ
  tables = flat_map (λ p. words_of σ (table_of F ω first p)) fs

  abbrev rw₁ : List ℕ
  rw₁ = words_of σ (r ∷ [])

  abbrev body : List ℕ
  body = tables ++ (rw₁ ++ tail)

  abbrev front : List ℕ
  front = w ++ (length bounds ∷ bounds)

  pub count_tables : length fs ≡ N
  count_tables = cut_count bounds (elements_in σ f)

  tables_each_in : Each (InRange h) (replicate (words_for h (N * h.size)) message) tables
  tables_each_in =
      subst (λ (n : ℕ). Each (InRange h) (replicate (words_for h (n * h.size)) message) tables) count_tables
      (tables_each (InRange h) σ (λ p. words_of σ (table_of F ω first p)) h.size fs
      (λ p. subst (λ (n : ℕ). Each (InRange h) (replicate (word_count σ n) message) (words_of σ (table_of F ω first p))) (first_size h) (table_each h positive first p)))

  tables_long : length tables ≡ words_for h (N * h.size)
  tables_long = each_length (InRange h) (replicate (words_for h (N * h.size)) message) tables tables_each_in ∙ length-replicate (words_for h (N * h.size)) message

  -- r, read and written again
  r_words : rw₁ ≡ take (words_for h 1) coins
  r_words = sym (take_at rw₁ plain (words_for h 1) (words_length σ (r ∷ []))) ∙ ap (take (words_for h 1)) (one_back σ coins (batch_some ok).0)

  -- the kinds, with r's apart
  kinds_are : batch_layout h N ≡ replicate (words_for h (N * h.size)) message ++ (replicate (words_for h 1) coin ++ (replicate (words_for h 1) coin ++ rest h))
  unfolding batch_layout
  kinds_are = ap (λ (ks : List Kind). replicate (words_for h (N * h.size)) message ++ ks)
      (ap (λ (n : ℕ). replicate n coin ++ rest h) (count_add σ 1 1) ∙ ap (λ (ks : List Kind). ks ++ rest h) (runs (words_for h 1) (words_for h 1) coin) ∙ append_assoc (replicate (words_for h 1) coin) (replicate (words_for h 1) coin) (rest h))

  inside : Each (InRange h) (batch_layout h N) body
  inside =
      subst (λ (ks : List Kind). Each (InRange h) ks body) (sym kinds_are)
      (each_join (InRange h) (replicate (words_for h (N * h.size)) message) _ tables _ tables_each_in
      (each_join (InRange h) (replicate (words_for h 1) coin) _ rw₁ _ (subst (Each (InRange h) (replicate (words_for h 1) coin)) (sym r_words) (combination_passes ok)) tail_each))

  -- the stream
  pub batch_is : honest_batch w bounds f coins ≡ front ++ body
  unfolding honest_batch first_level
  batch_is =
      ap (λ (t : List ℕ). w ++ (N ∷ (bounds ++ (tables ++ t)))) (ap (λ (t : List ℕ). t ++ rest_words σ (honest_rest F ω first g c.fold c.rounds c.finals)) (words_append σ (r ∷ []) (c.fold ∷ []))
      ∙ append_assoc rw₁ (words_of σ (c.fold ∷ [])) _)
      ∙ sym (append_assoc w (N ∷ bounds) body)

  front_long : length front ≡ batch_start N
  unfolding batch_start
  front_long = length-append w (N ∷ bounds) ∙ omega (arith, batch_long ok)

  -- all of them are words
  kinds_fit : All (λ k. limit h.prime k ≤ 4294967296) (batch_layout h N)
  unfolding layout limit
  kinds_fit =
      let P : Kind → Type 0 = λ k. limit h.prime k ≤ 4294967296 in
      let m : P message = omega (arith, sheet_ready.small) in
      let k : P coin = omega (arith, sheet_ready.small) in
      let later = all_right P (replicate (words_for h h.size) message) _ (layout_fits h sheet_ready) in
      subst (All P) (sym kinds_are)
      (all_append P (replicate (words_for h (N * h.size)) message) _ (all_replicate P (words_for h (N * h.size)) message m)
      (all_append P (replicate (words_for h 1) coin) _ (all_replicate P (words_for h 1) coin k) later))

  degree_word : h.degree < 4294967296
  unfolding sheet_of
  degree_word = at_place Word w 0 (sheet_words_lem edition1 w (batch_long ok) ok.sheet) 2 (omega (arith, batch_long ok))

  front_words : All Word front
  front_words = all_append Word w (N ∷ bounds) (sheet_words_lem edition1 w (batch_long ok) ok.sheet)
      (omega (arith, (batch_number ok).1), all_map bounds (batch_bounds ok) (λ b e. omega (arith, e.1, degree_word)))

  pub all_words : All Word (front ++ body)
  all_words = all_append Word front body front_words (words_of_kinds h (batch_layout h N) body kinds_fit inside)

  some : 0 < length front
  unfolding batch_start
  some = omega (arith, front_long)

  abbrev fill : List ℕ
  fill = replicate (fill_count (front ++ body)) 0

  abbrev file : List ℕ
  file = file_of (honest_batch w bounds f coins)

  file_is : file_of (honest_batch w bounds f coins) ≡ file_of (front ++ body)
  file_is = ap file_of batch_is

  -- the file has the blocks due
  pub file_size : length (file_of (honest_batch w bounds f coins)) ≡ 512 * block_count (batch_words (sheet_of edition1 w) (length bounds))
  unfolding batch_words
  file_size = ap length file_is ∙ FrontAndBody.file_size h front body (batch_layout h N) some all_words inside ∙ ap (λ (n : ℕ). 512 * block_count (n + length (batch_layout h N))) front_long

  pub stream_is : stream_of (file_of (honest_batch w bounds f coins)) ≡ front ++ (body ++ fill)
  stream_is = ap stream_of file_is ∙ FrontAndBody.stream_is h front body (batch_layout h N) some all_words inside

  -- sheet, number and bounds in it
  whole_is : front ++ (body ++ fill) ≡ w ++ ((N ∷ bounds) ++ (body ++ fill))
  whole_is = append_assoc w (N ∷ bounds) (body ++ fill)

  pub sheet_is : sheet_of edition1 (front ++ (body ++ fill)) ≡ h
  sheet_is = ap (sheet_of edition1) whole_is ∙ sheet_front edition1 w (batch_long ok) ok.sheet _

  sheet_passes : sheet_test edition1 (front ++ (body ++ fill)) ≡ accepted
  sheet_passes = ap (sheet_test edition1) whole_is ∙ rules_front edition1 w (batch_long ok) ok.sheet _

  after_sheet : drop 12 (front ++ (body ++ fill)) ≡ N ∷ (bounds ++ (body ++ fill))
  after_sheet = ap (drop 12) whole_is ∙ drop_at w ((N ∷ bounds) ++ (body ++ fill)) 12 (batch_long ok)

  pub number_is : get_or (front ++ (body ++ fill)) 12 0 ≡ N
  number_is =
      ap (λ (l : List ℕ). get_or l 12 0) whole_is ∙ ap (λ (n : ℕ). get_or (w ++ ((N ∷ bounds) ++ (body ++ fill))) n 0) (let e : 12 ≡ length w + 0 = omega (arith, batch_long ok) in e)
      ∙ get_or-append-add w ((N ∷ bounds) ++ (body ++ fill)) 0 0

  bounds_are : drop 13 (front ++ (body ++ fill)) ≡ bounds ++ (body ++ fill)
  bounds_are = sym (drop-drop 1 12 (front ++ (body ++ fill))) ∙ ap (drop 1) after_sheet

  test_passes : batch_test h N (bounds ++ (body ++ fill)) ≡ accepted
  unfolding batch_test batch_rules
  test_passes =
      ap (λ (l : List ℕ). refuse_at 15 (first_true 0 (map not ((between 1 8 N && leb (N * h.size) (most_entries h.spelling)) ∷ map (between 1 h.degree) l))))
      (take_at bounds (body ++ fill) N refl ∙ sym (take_all N bounds (omega arith))) ∙ ok.bounded

  -- READING: refusals 1, 2, 3, 15, 4, 5 and 6
  pub batch_reads_lem : batch_reading (file_of (honest_batch w bounds f coins)) ≡ accepted
  unfolding batch_reading batch_tests ◌then◌
  batch_reads_lem = λ i. lengths i then checks i then tests i
    where
      lengths : length_test file ≡ accepted
      lengths = ap length_test file_is ∙ FrontAndBody.length_passes h front body (batch_layout h N) some all_words inside

      checks : check_test file ≡ accepted
      checks = ap check_test file_is ∙ FrontAndBody.checks_pass h front body (batch_layout h N) some all_words inside

      fits : body_tests h (batch_start N) (batch_layout h N) (length file / 512) (front ++ (body ++ fill)) ≡ accepted
      fits = (λ i. body_tests h (sym front_long i) (batch_layout h N) (length (file_is i) / 512) (front ++ (body ++ fill))) ∙ FrontAndBody.body_passes h front body (batch_layout h N) some all_words inside

      tests : batch_tests (length file / 512) (stream_of file) ≡ accepted
      tests =
          ap (batch_tests (length file / 512)) stream_is
          ∙ (λ i. sheet_passes i then batch_test (sheet_is i) (number_is i) (bounds_are i)
          then body_tests (sheet_is i) (batch_start (number_is i)) (batch_layout (sheet_is i) (number_is i)) (length file / 512) (front ++ (body ++ fill)))
          ∙ (λ i. test_passes i then fits i)

  -- the tests of out coins
  after_front : drop (batch_start N) (front ++ (body ++ fill)) ≡ body ++ fill
  after_front = ap (λ (n : ℕ). drop n (front ++ (body ++ fill))) (sym front_long) ∙ FrontAndBody.after_front h front body (batch_layout h N) some all_words inside

  -- no out coin of them lies in its domain
  body_off : (z : List ℕ) → Front (Outside h) (layout h) (begun_by σ (transcript_words σ τ ++ z)) → Front (Outside h) (batch_layout h N) (begun_by σ (body ++ z))
  unfolding out_in_domain layout
  body_off z p =
      subst (λ (ks : List Kind). Front (Outside h) ks (begun_by σ (body ++ z))) (sym kinds_are)
      (subst (λ (x : List ℕ). Front (Outside h) (replicate (words_for h (N * h.size)) message ++ (replicate (words_for h 1) coin ++ (replicate (words_for h 1) coin ++ rest h))) (begun_by σ x))
      (sym (append_assoc tables (rw₁ ++ tail) z ∙ ap (λ (x : List ℕ). tables ++ x) (append_assoc rw₁ tail z)))
      (begun_quiet σ (Outside h) (words_for h (N * h.size)) message (λ x. refl) _ tables _ tables_long
      (begun_quiet σ (Outside h) (words_for h 1) coin (λ x. refl) _ rw₁ _ (words_length σ (r ∷ []))
      (subst (Front (Outside h) (replicate (words_for h 1) coin ++ rest h)) begun
      (front_at (Outside h) (words_for h h.size) (replicate (words_for h h.size) message) _ (begun_by σ (transcript_words σ τ ++ z)) (length-replicate (words_for h h.size) message) p).1))))
    where
      begun : drop (words_for h h.size) (begun_by σ (transcript_words σ τ ++ z)) ≡ begun_by σ (tail ++ z)
      begun =
          begun_drop σ (words_for h h.size) (transcript_words σ τ ++ z)
          ∙ ap (begun_by σ) (ap (λ (x : List ℕ). drop (words_for h h.size) (x ++ z)) transcript_is ∙ ap (drop (words_for h h.size)) (append_assoc tbl tail z) ∙ drop_at tbl (tail ++ z) (words_for h h.size) (table_long g))

  pub out_passes : out_test h (batch_start N) (batch_layout h N) (front ++ (body ++ fill)) ≡ accepted
  unfolding out_test read_coins
  out_passes = at_none 7 _
      (ap (λ (l : List ℕ). first_true (batch_start N) (zip_with (out_in_domain σ h) (batch_layout h N) (begun_by σ l))) after_front
      ∙ front_none (out_in_domain σ h) (batch_start N) (batch_layout h N) (begun_by σ (body ++ fill)) off)
    where
      plain_off : Front (Outside h) (layout h) (begun_by σ (transcript_words σ τ ++ fill))
      plain_off = words_off h positive sheet_ready.laws g plain combined_degree (first_passes ok) (batch_some ok).1 (batch_runs ok) admissible_coins fill (batch_off ok)

      off : Front (Outside h) (batch_layout h N) (begun_by σ (body ++ fill))
      off = body_off fill plain_off

  -- the coins among the words are those given
  body_coins : coins_among (batch_layout h N) body ≡ coins
  unfolding read_coins layout
  body_coins =
      ap (λ (ks : List Kind). coins_among ks body) kinds_are
      ∙ among_messages (words_for h (N * h.size)) _ tables _ tables_long ∙ among_coins (words_for h 1) _ rw₁ _ (words_length σ (r ∷ []))
      ∙ ap (λ (x : List ℕ). rw₁ ++ x) (sym (ap (coins_among (layout h)) transcript_is ∙ among_messages (words_for h h.size) (replicate (words_for h 1) coin ++ rest h) tbl tail (table_long g))
      ∙ words_coins h positive sheet_ready.laws g plain combined_degree (first_passes ok) (batch_some ok).1 (batch_runs ok) admissible_coins)
      ∙ one_back σ coins (batch_some ok).0

  kinds_whole : Whole σ (batch_layout h N)
  unfolding layout
  kinds_whole =
      subst (Whole σ) (sym kinds_are)
      (whole_messages σ (words_for h (N * h.size)) _ (whole_coins σ (words_for h 1) _ (whole_coins σ (words_for h 1) (rest h) (whole_past σ (words_for h h.size) (words_for h 1) (rest h) (layout_whole h)))))

  words_apart : NoRepeat F none (batch_layout h N) (begun_by σ (body ++ fill))
  words_apart =
      stream_apart σ F none none tt (batch_layout h N) (body ++ fill) kinds_whole
      (subst (λ (x : List ℕ). NoRepeat F none (coin_kinds (batch_layout h N)) (begun_by σ x))
      (sym (among_front (batch_layout h N) body fill (each_length (InRange h) (batch_layout h N) body inside) ∙ body_coins)) (batch_apart ok))

  pub equal_passes : equal_test h (batch_start N) (batch_layout h N) (front ++ (body ++ fill)) ≡ accepted
  unfolding equal_test
  equal_passes = at_none 14 _ (ap (λ (l : List ℕ). first_true (batch_start N) (repeated_outs F none (batch_layout h N) (begun_by σ l))) after_front ∙ none_true (batch_start N) _ words_apart)

  -- READING THE WORDS BACK gives the batch
  pub read_back : read_batch σ h (drop 12 (front ++ (body ++ fill))) ≡ β
  unfolding read_batch read_coins
  read_back = ap (read_batch σ h) after_sheet ∙ (λ i. record {
    bounds = (take_at bounds (body ++ fill) N refl ∙ sym (cut_lengths bounds (elements_in σ f) (batch_sum ok))) i;
    tables = (ap (λ (l : List ℕ). chunks N h.size (elements_in σ l)) after_bounds ∙ ap (chunks N h.size) (tables_read σ (table_of F ω first) fs later)
        ∙ ap (λ (n : ℕ). chunks n h.size (flat_map (table_of F ω first) fs ++ elements_in σ later)) (sym count_tables) ∙ chunks_tables (table_of F ω first) h.size fs (elements_in σ later) table_size) i;
    combination = (ap (λ (l : List ℕ). get_or (elements_in σ l) 0 (number_in σ 0)) after_tables ∙ ap (λ (xs : List (Element (sheet_of edition1 w).spelling)). get_or xs 0 (number_in σ 0)) two_read) i;
    fold = (ap (λ (l : List ℕ). get_or (elements_in σ l) 1 (number_in σ 0)) after_tables ∙ ap (λ (xs : List (Element (sheet_of edition1 w).spelling)). get_or xs 1 (number_in σ 0)) two_read) i;
    rest = (ap (λ (l : List ℕ). read_rest σ h.out_coins first (later_levels h) (drop (words_for h 2) l)) after_tables ∙ ap (read_rest σ h.out_coins first (later_levels h)) past_two
        ∙ round_trip σ h.out_coins fill first (later_levels h) _
        (rest_shaped h positive sheet_ready.laws h.out_coins first (later_levels h) g c.fold (drop (words_for h 1) plain) combined_length (batch_runs ok) admissible_coins)) i;
  })
    where
      more : List ℕ
      more = rest_words σ (honest_rest F ω first g c.fold c.rounds c.finals) ++ fill

      later : List ℕ
      later = words_of σ (r ∷ c.fold ∷ []) ++ (rest_words σ (honest_rest F ω first g c.fold c.rounds c.finals) ++ fill)

      table_size : (p : List (Element (sheet_of edition1 w).spelling)) → length (table_of F ω first p) ≡ h.size
      table_size p = table_length F ω first p ∙ first_size h

      later_is : (rw₁ ++ tail) ++ fill ≡ words_of σ (r ∷ c.fold ∷ []) ++ (rest_words σ (honest_rest F ω first g c.fold c.rounds c.finals) ++ fill)
      later_is =
          ap (λ (x : List ℕ). x ++ fill) (sym (ap (λ (t : List ℕ). t ++ rest_words σ (honest_rest F ω first g c.fold c.rounds c.finals)) (words_append σ (r ∷ []) (c.fold ∷ [])) ∙ append_assoc rw₁ (words_of σ (c.fold ∷ [])) _))
          ∙ append_assoc (words_of σ (r ∷ c.fold ∷ [])) _ fill

      after_bounds : drop (suc N) (N ∷ (bounds ++ (body ++ fill))) ≡ tables ++ (words_of σ (r ∷ c.fold ∷ []) ++ (rest_words σ (honest_rest F ω first g c.fold c.rounds c.finals) ++ fill))
      after_bounds = drop_at bounds (body ++ fill) N refl ∙ append_assoc tables (rw₁ ++ tail) fill ∙ ap (λ (x : List ℕ). tables ++ x) later_is

      after_tables : drop (words_for h (N * h.size)) (drop (suc N) (N ∷ (bounds ++ (body ++ fill)))) ≡ words_of σ (r ∷ c.fold ∷ []) ++ (rest_words σ (honest_rest F ω first g c.fold c.rounds c.finals) ++ fill)
      after_tables = ap (drop (words_for h (N * h.size))) after_bounds ∙ drop_at tables _ (words_for h (N * h.size)) tables_long

      two_read : elements_in σ (words_of σ (r ∷ c.fold ∷ []) ++ (rest_words σ (honest_rest F ω first g c.fold c.rounds c.finals) ++ fill))
          ≡ r ∷ c.fold ∷ elements_in σ (rest_words σ (honest_rest F ω first g c.fold c.rounds c.finals) ++ fill)
      two_read = read_words σ (r ∷ c.fold ∷ []) _

      past_two : drop (words_for h 2) (words_of σ (r ∷ c.fold ∷ []) ++ (rest_words σ (honest_rest F ω first g c.fold c.rounds c.finals) ++ fill)) ≡ rest_words σ (honest_rest F ω first g c.fold c.rounds c.finals) ++ fill
      past_two = drop_at (words_of σ (r ∷ c.fold ∷ [])) _ (words_for h 2) (words_length σ (r ∷ c.fold ∷ []))

  -- TABLES ARE VALUES: entry j of table m is polynomial m at point j of domain 0, whatever follows the words
  pub table_entry : (z : List ℕ) (m j : ℕ) → m < length bounds → j < (sheet_of edition1 w).size →
      element_at (sheet_of edition1 w).spelling (honest_batch w bounds f coins ++ z) (batch_start (length bounds) + words_for (sheet_of edition1 w) (m * (sheet_of edition1 w).size + j))
      ≡ evaluate (sheet_field (sheet_of edition1 w)) (get_or (cut_by bounds (elements_in (sheet_of edition1 w).spelling f)) m []) (point (sheet_field (sheet_of edition1 w)) (sheet_root (sheet_of edition1 w)) (first_level (sheet_of edition1 w)) j)
  table_entry z m j l u =
      sym (read_drop σ (honest_batch w bounds f coins ++ z) (batch_start N) (m * h.size + j))
      ∙ ap (λ (x : List ℕ). get_or (elements_in σ x) (m * h.size + j) (number_in σ 0)) there
      ∙ ap (λ (xs : List (Element (sheet_of edition1 w).spelling)). get_or xs (m * h.size + j) (number_in σ 0)) (tables_read σ (table_of F ω first) fs ((rw₁ ++ tail) ++ z))
      ∙ in_table (number_in σ 0) [] (table_of F ω first) h.size fs (elements_in σ ((rw₁ ++ tail) ++ z)) (λ p. table_length F ω first p ∙ first_size h) m j (omega (arith, count_tables)) u
      ∙ ap (λ (d : Element (sheet_of edition1 w).spelling). get_or (table_of F ω first (get_or fs m [])) j d) (sym (zero_in σ h.prime))
      ∙ table_at F ω first (get_or fs m []) j (omega (arith, first_size h))
    where
      there : drop (batch_start N) (honest_batch w bounds f coins ++ z) ≡ tables ++ ((rw₁ ++ tail) ++ z)
      there =
          ap (λ (x : List ℕ). drop (batch_start N) (x ++ z)) batch_is ∙ ap (drop (batch_start N)) (append_assoc front body z) ∙ drop_at front (body ++ z) (batch_start N) front_long ∙ append_assoc tables (rw₁ ++ tail) z
