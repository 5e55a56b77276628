-- Refusals 5 and 6 of a batch by those of its plain stream: the words of the tables and of r come first; past them the tests find the same words, at numbers that are
-- higher, since the combined values are elements (document 02, CR 9: refusals 5 and 6 as in a plain file).
use Prim.Native.Nat.{ℕ, zero, suc, ◌+◌, ◌*◌, ◌≤◌}
use Rattle.std.proofs.Common.{add-zero, ◌∙◌, length-drop, drop_at, take_at}
use native.Mathlib.Omega.{arith}
use Rattle.std.proofs.Math.Bool.{Bool, true, false, not}
use mathlib.Core.List.{List, [], ◌∷◌, ◌++◌, append_assoc, map, zip_with}
use Rattle.std.proofs.Math.Option.{Option, none, some}
use Rattle.std.proofs.Math.Path.{◌≡◌, refl, sym, ap}
use Rattle.std.specs.Prelude.{eqb, leb, get_or, take}
use Rattle.std.proofs.Math.ListN.{length, drop, replicate, length-append, length-replicate}
use Rattle.std.proofs.Math.Seq.{drop-drop}
use Rattle.batch_definition.specs.Batch.{batch_layout, batch_start, batch_words, read_batch}
use Rattle.definition.specs.Field.{words_of}
use Rattle.definition.specs.Layout.{Kind, coin, layout, limit, message, rest_layout, words_due}
use Rattle.definition.specs.Lists.{first_true}
use Rattle.definition.specs.Reading.{fill_test, out_of_range, range_test, sheet_test}
use Rattle.definition.specs.Sheet.{Sheet, edition1, first_level, later_levels, sheet_of}
use Rattle.definition.specs.Verdict.{Outcome, ◌then◌, accepted, refuse_at, refused}
use Rattle.list_laws.specs.All.{all_of_map}
use Rattle.layouts.specs.Levels.{words_for}
use Rattle.layouts.specs.Tests.{none_true}
use Rattle.completeness.specs.Ready.{ready}
use Rattle.batches.proofs.AllowedBatches.{runs}
use Rattle.batches.specs.BodyTests.{batch_body, plain_body, tables_test}
use Rattle.batches.specs.Batched.{combined_table, fold_number, higher, higher_by, plain_words}
use Rattle.batches.proofs.PlainStream as plain
use Rattle.batches.proofs.PlainStream.{both_moved, first_moved, moved}

-- ---- the first word that a test finds, in words of one kind and past them

module _ (t : Kind → ℕ → Bool) where
  past_none : (n from : ℕ) (k : Kind) (ks : List Kind) (xs : List ℕ) → n ≤ length xs → none ≡ first_true from (map (t k) (take n xs)) →
      first_true from (zip_with t (replicate n k ++ ks) xs) ≡ first_true (from + n) (zip_with t ks (drop n xs))
  unfolding zip_with first_true
  past_none zero from k ks xs l e = ap (λ (m : ℕ). first_true m (zip_with t ks xs)) (sym (add-zero from))
  past_none (suc n) from k ks [] l e = absurd (omega arith)
  past_none (suc n) from k ks (x ∷ xs) l e = go (t k x) e (past_none n (suc from) k ks xs (omega arith))
    where
      go : (b : Bool) → none ≡ first_true from (b ∷ map (t k) (take n xs)) →
          (none ≡ first_true (suc from) (map (t k) (take n xs)) → first_true (suc from) (zip_with t (replicate n k ++ ks) xs) ≡ first_true (suc from + n) (zip_with t ks (drop n xs))) →
          first_true from (b ∷ zip_with t (replicate n k ++ ks) xs) ≡ first_true (from + suc n) (zip_with t ks (drop n xs))
      go true h later = absurd (let y : ◌≡◌ {A = ℕ} 0 1 = cc in omega arith)
      go false h later = later h ∙ ap (λ (m : ℕ). first_true m (zip_with t ks (drop n xs))) (let q : suc from + n ≡ from + suc n = omega arith in q)

  past_some : (n from q : ℕ) (k : Kind) (ks : List Kind) (xs : List ℕ) → some q ≡ first_true from (map (t k) (take n xs)) → first_true from (zip_with t (replicate n k ++ ks) xs) ≡ some q
  unfolding zip_with first_true
  past_some zero from q k ks xs e = absurd (let y : ◌≡◌ {A = ℕ} 0 1 = cc in omega arith)
  past_some (suc n) from q k ks [] e = absurd (let y : ◌≡◌ {A = ℕ} 0 1 = cc in omega arith)
  past_some (suc n) from q k ks (x ∷ xs) e = go (t k x) e (past_some n (suc from) q k ks xs)
    where
      go : (b : Bool) → some q ≡ first_true from (b ∷ map (t k) (take n xs)) →
          (some q ≡ first_true (suc from) (map (t k) (take n xs)) → first_true (suc from) (zip_with t (replicate n k ++ ks) xs) ≡ some q) → first_true from (b ∷ zip_with t (replicate n k ++ ks) xs) ≡ some q
      go true h later = sym h
      go false h later = later h

  -- a kind with the same test in place of another
  as_other : (a b : ℕ) (k l : Kind) (ks : List Kind) (xs : List ℕ) → t l ≡ t k → zip_with t (replicate a k ++ (replicate b l ++ ks)) xs ≡ zip_with t (replicate a k ++ (replicate b k ++ ks)) xs
  unfolding zip_with
  as_other zero zero k l ks xs e = refl
  as_other zero (suc b) k l ks [] e = refl
  as_other zero (suc b) k l ks (x ∷ xs) e = λ i. e i x ∷ as_other zero b k l ks xs e i
  as_other (suc a) b k l ks [] e = refl
  as_other (suc a) b k l ks (x ∷ xs) e = ap (λ (r : List Bool). t k x ∷ r) (as_other a b k l ks xs e)

-- ---- a batch's words: a sheet without a fault, and all words due

module _ (w : List ℕ) (passed : sheet_test edition1 w ≡ accepted) (some₁ : 1 ≤ get_or w 12 0) (full : batch_words (sheet_of edition1 w) (get_or w 12 0) ≤ length w) where
  abbrev h : Sheet
  h = sheet_of edition1 w

  abbrev N : ℕ
  N = get_or w 12 0

  -- the words of n0 elements, of all tables and of one coin
  abbrev n : ℕ
  n = words_for (sheet_of edition1 w) (sheet_of edition1 w).size

  abbrev m : ℕ
  m = words_for (sheet_of edition1 w) (get_or w 12 0 * (sheet_of edition1 w).size)

  abbrev o : ℕ
  o = words_for (sheet_of edition1 w) 1

  abbrev at : ℕ
  at = fold_number (sheet_of edition1 w) (get_or w 12 0)

  abbrev K : ℕ
  K = higher_by (sheet_of edition1 w) (get_or w 12 0)

  abbrev rest : List Kind
  rest = rest_layout (sheet_of edition1 w).spelling (sheet_of edition1 w).out_coins (first_level (sheet_of edition1 w)) (later_levels (sheet_of edition1 w))

  abbrev test : Kind → ℕ → Bool
  test = out_of_range (sheet_of edition1 w)

  kinds : zip_with test (batch_layout h N) (drop (batch_start N) w) ≡ zip_with test (replicate (m + o) message ++ (replicate o coin ++ rest)) (drop (batch_start N) w)
  unfolding batch_layout out_of_range limit
  kinds =
      ap (λ (ks : List Kind). zip_with test (replicate m message ++ ks) (drop (batch_start N) w))
      (ap (λ (k : ℕ). replicate k coin ++ rest) (plain.two_coins w passed some₁ full) ∙ ap (λ (ks : List Kind). ks ++ rest) (runs o o coin) ∙ append_assoc (replicate o coin) (replicate o coin) rest)
      ∙ as_other test m o message coin (replicate o coin ++ rest) (drop (batch_start N) w) refl
      ∙ ap (λ (ks : List Kind). zip_with test ks (drop (batch_start N) w))
      (sym (ap (λ (ks : List Kind). ks ++ (replicate o coin ++ rest)) (runs m o message) ∙ append_assoc (replicate m message) (replicate o message) (replicate o coin ++ rest)))

  -- 5 in a table's word or one of r's
  pub tables_refuse : (q : ℕ) → some q ≡ tables_test w → refused 5 q ≡ batch_body w
  unfolding tables_test batch_body range_test refuse_at ◌then◌ out_of_range limit
  tables_refuse q e =
      ap (λ (t : Option ℕ). refuse_at 5 t then fill_test (batch_words h N) w)
      (sym (ap (first_true (batch_start N)) kinds ∙ past_some test (m + o) (batch_start N) q message (replicate o coin ++ rest) (drop (batch_start N) w) e))

  many : m + o ≤ length (drop (batch_start N) w)
  many = omega (arith, length-drop (batch_start N) w, (plain.long w passed some₁ full).1, plain.at_is w passed some₁ full)

  -- past them: the words from fold coin 0 on
  batch_range : none ≡ tables_test w → first_true (batch_start N) (zip_with test (batch_layout h N) (drop (batch_start N) w)) ≡ first_true at (zip_with test (replicate o coin ++ rest) (drop at w))
  unfolding tables_test out_of_range limit
  batch_range e =
      ap (first_true (batch_start N)) kinds
      ∙ past_none test (m + o) (batch_start N) message (replicate o coin ++ rest) (drop (batch_start N) w) many e
      ∙ ap (λ (l : List ℕ). first_true (batch_start N + (m + o)) (zip_with test (replicate o coin ++ rest) l)) (drop-drop (m + o) (batch_start N) w)
      ∙ ap (λ (k : ℕ). first_true k (zip_with test (replicate o coin ++ rest) (drop k w))) (sym (plain.at_is w passed some₁ full))

  -- in the plain stream too, whose table 0 has no word out of range
  abbrev table : List ℕ
  table = words_of (sheet_of edition1 w).spelling (combined_table (sheet_of edition1 w) (read_batch (sheet_of edition1 w).spelling (sheet_of edition1 w) (drop 12 w)))

  plain_range : first_true 12 (zip_with test (layout h) (drop 12 (plain_words w))) ≡ first_true (12 + n) (zip_with test (replicate o coin ++ rest) (drop at w))
  unfolding layout
  plain_range =
      ap (λ (l : List ℕ). first_true 12 (zip_with test (replicate n message ++ (replicate o coin ++ rest)) l)) (plain.after_sheet w passed some₁ full)
      ∙ past_none test n 12 message (replicate o coin ++ rest) (table ++ drop at w) room below
      ∙ ap (λ (l : List ℕ). first_true (12 + n) (zip_with test (replicate o coin ++ rest) l)) (drop_at table (drop at w) n (plain.table_long w passed some₁ full))
    where
      room : n ≤ length (table ++ drop at w)
      room = omega (arith, length-append table (drop at w), plain.table_long w passed some₁ full)

      below : none ≡ first_true 12 (map (test message) (take n (table ++ drop at w)))
      below =
          sym (ap (λ (l : List ℕ). first_true 12 (map (test message) l)) (take_at table (drop at w) n (plain.table_long w passed some₁ full))
          ∙ none_true 12 _ (all_of_map (λ (b : Bool). b ≡ false) (test message) table
          (plain.combined_below h (read_batch h.spelling h (drop 12 w)) (omega (arith, (ready edition1 w (plain.enough w passed some₁ full) passed).large)))))

  -- the number of fold coin 0, and that of the first fill word
  fold_higher : at ≡ 12 + n + K
  fold_higher = omega (arith, plain.higher_is w passed some₁ full)

  fill_same : drop (batch_words h N) w ≡ drop (words_due edition1 h) (plain_words w)
  unfolding words_due layout
  fill_same =
      ap (λ (k : ℕ). drop k w) (plain.words_higher h N some₁ ∙ due)
      ∙ sym (drop-drop (o + length rest) at w) ∙ ap (drop (o + length rest)) (sym (drop_at table (drop at w) n (plain.table_long w passed some₁ full)))
      ∙ drop-drop (o + length rest) n (table ++ drop at w) ∙ ap (drop (n + (o + length rest))) (sym (plain.after_sheet w passed some₁ full)) ∙ drop-drop (n + (o + length rest)) 12 (plain_words w)
      ∙ ap (λ (k : ℕ). drop k (plain_words w)) (sym plain_words_lem)
    where
      plain_words_lem : 12 + length (replicate n message ++ (replicate o coin ++ rest)) ≡ 12 + (n + (o + length rest))
      plain_words_lem = omega (arith, length-append (replicate n message) (replicate o coin ++ rest), length-append (replicate o coin) rest, length-replicate n message, length-replicate o coin)

      due : 12 + length (replicate n message ++ (replicate o coin ++ rest)) + K ≡ at + (o + length rest)
      due = omega (arith, plain_words_lem, fold_higher)

  -- 5 AND 6 PAST THE TABLES AND r are those of the plain stream, at numbers that are higher.
  pub body_higher : none ≡ tables_test w → batch_body w ≡ higher (higher_by (sheet_of edition1 w) (get_or w 12 0)) (plain_body (plain_words w))
  unfolding batch_body plain_body range_test fill_test
  body_higher e =
      (λ i. refuse_at 5 (ranges i) then refuse_at 6 (fills i))
      ∙ both_moved 5 6 K (first_true 12 (zip_with test (layout h) (drop 12 (plain_words w)))) (first_true (words_due edition1 h) (map (λ x. not (eqb x 0)) (drop (words_due edition1 h) (plain_words w))))
      ∙ ap (λ (s : Sheet). higher K (range_test s 12 (layout s) (plain_words w) then fill_test (words_due edition1 s) (plain_words w))) (sym (plain.plain_sheet w passed some₁ full))
    where
      rows : List Bool
      rows = zip_with test (replicate o coin ++ rest) (drop at w)

      ranges : first_true (batch_start N) (zip_with test (batch_layout h N) (drop (batch_start N) w)) ≡ moved K (first_true 12 (zip_with test (layout h) (drop 12 (plain_words w))))
      ranges = batch_range e ∙ ap (λ (k : ℕ). first_true k rows) fold_higher ∙ first_moved (12 + n) K rows ∙ ap (moved K) (sym plain_range)

      fills : first_true (batch_words h N) (map (λ x. not (eqb x 0)) (drop (batch_words h N) w)) ≡ moved K (first_true (words_due edition1 h) (map (λ x. not (eqb x 0)) (drop (words_due edition1 h) (plain_words w))))
      fills =
          (λ i. first_true (plain.words_higher h N some₁ i) (map (λ x. not (eqb x 0)) (fill_same i)))
          ∙ first_moved (words_due edition1 h) K (map (λ x. not (eqb x 0)) (drop (words_due edition1 h) (plain_words w)))
