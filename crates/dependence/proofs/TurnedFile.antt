-- Every order of a part's indices has a file: the words due with these indices in their place, in blocks with right checks.
use Prim.Native.Nat.{ℕ, ◌+◌, ◌-◌, ◌*◌, ◌≤◌, ◌<◌}
use Rattle.std.proofs.Math.Decide.{dec_lt}
use Rattle.std.proofs.Common.{arith, sym, ◌∙◌, length-append, length-drop, take-append-drop, drop_at, get_or-append-add, get_or-drop, get_or-take, length-take-le, take_at, leb-false}
use Rattle.std.specs.Prelude.{Bool, false, ◌≡◌, length, replicate}
use mathlib.Core.List.{List, [], ◌++◌, append_assoc, zip_with, Permᴰ}
use Rattle.std.proofs.Math.Path.{ap, subst}
use Rattle.std.proofs.Math.ListN.{get_or, take, drop, get_or-append, get_or-eq_default}
use Rattle.std.proofs.lemmas.List.{length-replicate, get_or-replicate}
use Rattle.definition.specs.Block.{block_count, file_of, stream_of}
use Rattle.definition.specs.Layout.{layout, limit, message, words_due}
use Rattle.definition.specs.Reading.{check_test, out_of_range, range_test, reading, sheet_test}
use Rattle.definition.specs.Sheet.{Edition, Sheet, sheet_length}
use Rattle.definition.specs.Verdict.{accepted}
use Rattle.list_laws.specs.All.{All, all_append, all_drop, all_places, all_take, at_place}
use Rattle.layouts.specs.FileTrip.{Word, file_checks, file_length, file_stream, fill_count, filled}
use Rattle.layouts.specs.Passed.{Passed, passed}
use Rattle.layouts.proofs.SheetLevels.{rules_back}
use Rattle.layouts.specs.SheetRules.{sheet_words_lem}
use Rattle.layouts.specs.Tests.{all_false, at_none, none_true}
use Rattle.completeness.specs.Faults.{Part, due_of, part_length, part_start, part_words, sheet_in}
use Rattle.completeness.specs.PairsByNumber.{part_length_lem, part_word_lem}
use Rattle.completeness.specs.Ready.{layout_fits, ready}
use Rattle.completeness.proofs.SameVerdict.{Ordered, ordered}
use Rattle.completeness.specs.TestsByNumber.{zip_at, zip_length}
use Rattle.dependence.specs.Changes.{Indices, Reordered, with_indices}
use Rattle.dependence.specs.Orders.{perm_all, perm_length}
use Rattle.dependence.proofs.TurnedWords as turned

-- a list with another run of the same length in it, by number
module _ (w js z : List ℕ) (a n : ℕ) (enough : a + n ≤ length w) (long : length js ≡ n) where
  abbrev new : List ℕ
  new = take a w ++ (js ++ drop (a + n) w)

  front_long : length (take a w) ≡ a
  front_long = length-take-le a w (omega arith)

  pub new_length : length new ≡ length w
  new_length = length-append (take a w) _ ∙ omega (arith, front_long, length-append js (drop (a + n) w), long, length-drop (a + n) w)

  pub new_run : take n (drop a (new ++ z)) ≡ js
  new_run = ap (λ (l : List ℕ). take n (drop a l)) (append_assoc (take a w) _ z) ∙ ap (take n) (drop_at (take a w) _ a front_long ∙ append_assoc js _ z) ∙ take_at js _ n long

  pub new_before : (m : ℕ) → m < a → get_or (new ++ z) m 0 ≡ get_or w m 0
  new_before m l =
      ap (λ (x : List ℕ). get_or x m 0) (append_assoc (take a w) _ z) ∙ get_or-append (take a w) _ 0 m (omega (arith, front_long)) ∙ get_or-take a w m 0 l

  pub new_after : (m : ℕ) → a + n ≤ m → m < length w → get_or (new ++ z) m 0 ≡ get_or w m 0
  new_after m l u =
      let e : m ≡ length (take a w) + (length js + (m - (a + n))) = omega (arith, front_long, long) in
      let r : m - (a + n) < length (drop (a + n) w) = omega (arith, length-drop (a + n) w) in
      ap (λ (x : List ℕ). get_or x m 0) (append_assoc (take a w) _ z ∙ ap (λ (y : List ℕ). take a w ++ y) (append_assoc js _ z))
      ∙ ap (λ (k : ℕ). get_or (take a w ++ (js ++ (drop (a + n) w ++ z))) k 0) e
      ∙ get_or-append-add (take a w) _ _ 0 ∙ get_or-append-add js _ _ 0 ∙ get_or-append (drop (a + n) w) z 0 (m - (a + n)) r
      ∙ get_or-drop (a + n) w (m - (a + n)) 0 ∙ ap (λ (k : ℕ). get_or w k 0) (let f : a + n + (m - (a + n)) ≡ m = omega arith in f)

  pub new_past : (m : ℕ) → get_or (new ++ z) (length w + m) 0 ≡ get_or z m 0
  new_past m = ap (λ (k : ℕ). get_or (new ++ z) (k + m) 0) (sym new_length) ∙ get_or-append-add new z m 0

zeros_at : (n m : ℕ) → get_or {A = ℕ} (replicate n 0) m 0 ≡ 0
zeros_at n m = go (dec_lt m n)
  where
    go : Dec (m < n) → get_or {A = ℕ} (replicate n 0) m 0 ≡ 0
    go (yes l) = get_or-replicate n m 0 0 l
    go (no l) = get_or-eq_default (replicate n 0) 0 {n = m} (omega (arith, length-replicate {A = ℕ} n 0))

file_filled : (u : List ℕ) → All Word u → stream_of (file_of u) ≡ u ++ replicate (fill_count u) 0
unfolding filled
file_filled u all = file_stream u all

checks_pass : (u : List ℕ) → All Word u → check_test (file_of u) ≡ accepted
unfolding check_test
checks_pass u all = at_none 2 _ (none_true 0 _ (file_checks u all))

module _ (ed : Edition) (x : List ℕ) (p : Part) (ip : Indices (sheet_in ed x) p) (read : reading ed x ≡ accepted) where
  abbrev v : List ℕ
  v = stream_of x

  abbrev h : Sheet
  h = sheet_in ed x

  abbrev D : ℕ
  D = due_of ed h

  abbrev w : List ℕ
  w = take (due_of ed (sheet_in ed x)) (stream_of x)

  ov : Ordered ed (stream_of x)
  ov = ordered ed x read

  ok : Passed ed x
  ok = passed ed x read

  w_long : length w ≡ D
  w_long = length-take-le D v ov.full

  due_is : words_due ed h ≡ D
  unfolding words_due
  due_is = ov.kinds

  -- the words due are words
  word_below : (m : ℕ) → m < D → Word (get_or v m 0)
  unfolding range_test out_of_range
  word_below m l = go (dec_lt m (sheet_length ed))
    where
      n₀ : ℕ
      n₀ = sheet_length ed

      fits : All (λ k. limit h.prime k ≤ 4294967296) (layout h)
      fits = layout_fits h (ready ed v (omega (arith, ov.full, ov.kinds)) ov.sheet)

      front_long : length (take (sheet_length ed) v) ≡ sheet_length ed
      front_long = length-take-le n₀ v (omega (arith, ov.full, ov.kinds))

      front_passed : sheet_test ed (take (sheet_length ed) v) ≡ accepted
      front_passed = rules_back ed (take n₀ v) front_long (drop n₀ v) (ap (sheet_test ed) (take-append-drop n₀ v) ∙ ov.sheet)

      go : Dec (m < sheet_length ed) → Word (get_or v m 0)
      go (yes u) = subst Word (get_or-take n₀ v m 0 u) (at_place Word (take n₀ v) 0 (sheet_words_lem ed (take n₀ v) front_long front_passed) m (omega (arith, front_long)))
      go (no u) =
          let z = m - n₀ in
          let e : n₀ + z ≡ m = omega arith in
          let k : z < length (layout h) = omega (arith, ov.kinds) in
          let enough : length (layout h) ≤ length (drop n₀ v) = omega (arith, length-drop n₀ v, ov.full, ov.kinds) in
          let good : out_of_range h (get_or (layout h) z message) (get_or (drop n₀ v) z 0) ≡ false = sym (zip_at (out_of_range h) message 0 (layout h) (drop n₀ v) z k enough)
          ∙ at_place (λ (b : Bool). b ≡ false) (zip_with (out_of_range h) (layout h) (drop n₀ v)) false (all_false 5 n₀ _ ok.range) z (omega (arith, zip_length (out_of_range h) message 0 (layout h) (drop n₀ v) enough)) in
          let f : get_or (drop n₀ v) z 0 ≡ get_or v m 0 = get_or-drop n₀ v z 0 ∙ ap (λ (n : ℕ). get_or v n 0) e in
          omega (arith, f, at_place (λ c. limit h.prime c ≤ 4294967296) (layout h) message fits z k, leb-false (limit h.prime (get_or (layout h) z message)) (get_or (drop n₀ v) z 0) good)

  due_words : All Word w
  due_words = all_places Word w 0 (λ j l. let u : j < D = omega (arith, w_long) in subst Word (sym (get_or-take D v j 0 u)) (word_below j u))

  abbrev a : ℕ
  a = part_start ed (sheet_in ed x) p

  abbrev n : ℕ
  n = part_length (sheet_in ed x) p

  ends : a + n ≤ length w
  ends = omega (arith, w_long, turned.indices_end ed h p ip)

  -- the part's words are among the words due
  part_in : (js : List ℕ) → Permᴰ (part_words ed h v p) js → (length js ≡ n) × All Word js
  part_in js d =
      let e = part_length_lem ed h v ov.full p (turned.indices_due h p ip) in (
        sym (perm_length d) ∙ e,
        perm_all Word d (all_places Word (part_words ed h v p) 0 (λ j l. let u : j < n = omega (arith, e) in
            subst Word (sym (part_word_lem ed h v ov.full p j u)) (word_below (a + j) (omega (arith, w_long, ends))))),
      )

  -- past the words due there are zeros
  zero_past : (m : ℕ) → D ≤ m → get_or v m 0 ≡ 0
  zero_past m l = go (dec_lt m (length v))
    where
      go : Dec (m < length v) → get_or v m 0 ≡ 0
      go (yes u) =
          ap (λ (k : ℕ). get_or v k 0) (let e : m ≡ words_due ed h + (m - words_due ed h) = omega (arith, due_is) in e) ∙ sym (get_or-drop (words_due ed h) v (m - words_due ed h) 0)
          ∙ at_place (λ k. k ≡ 0) (drop (words_due ed h) v) 0 ok.zeros (m - words_due ed h) (omega (arith, length-drop (words_due ed h) v, due_is))
      go (no u) = get_or-eq_default v 0 {n = m} (omega arith)

  pub reordered_file : (js : List ℕ) → Permᴰ (part_words ed (sheet_in ed x) (stream_of x) p) js → Reordered ed x p (with_indices ed x p js)
  unfolding with_indices part_words
  reordered_file js d = record {
    bytes = file_length u ∙ ap (λ (k : ℕ). 512 * block_count k) u_long ∙ size;
    checks = passes;
    outside = λ m o. subst (λ (s : List ℕ). get_or v m 0 ≡ get_or s m 0) (sym stream) (same m o);
    order = subst (λ (l : List ℕ). Permᴰ (part_words ed h v p) l) (sym (ap (λ (s : List ℕ). take n (drop a s)) stream ∙ new_run w js z a n ends (part_in js d).0)) d;
  }
    where
      u : List ℕ
      u = take a w ++ (js ++ drop (a + n) w)

      u_long : length (take a w ++ (js ++ drop (a + n) w)) ≡ D
      u_long = new_length w js [] a n ends (part_in js d).0 ∙ w_long

      z : List ℕ
      z = replicate (fill_count (take a w ++ (js ++ drop (a + n) w))) 0

      all : All Word (take a w ++ (js ++ drop (a + n) w))
      all = all_append Word (take a w) _ (all_take Word a w due_words) (all_append Word js _ (part_in js d).1 (all_drop Word (a + n) w due_words))

      stream : stream_of (file_of (take a w ++ (js ++ drop (a + n) w))) ≡ (take a w ++ (js ++ drop (a + n) w)) ++ replicate (fill_count (take a w ++ (js ++ drop (a + n) w))) 0
      stream = file_filled (take a w ++ (js ++ drop (a + n) w)) all

      size : 512 * block_count D ≡ length x
      size = omega (arith, ok.whole, ok.blocks, ap block_count due_is)

      passes : check_test (file_of (take a w ++ (js ++ drop (a + n) w))) ≡ accepted
      passes = checks_pass (take a w ++ (js ++ drop (a + n) w)) all

      same : (m : ℕ) → ((j : ℕ) → j < n → m ≡ a + j → ⊥) → get_or v m 0 ≡ get_or ((take a w ++ (js ++ drop (a + n) w)) ++ replicate (fill_count (take a w ++ (js ++ drop (a + n) w))) 0) m 0
      same m o = go (dec_lt m a) (dec_lt m (a + n)) (dec_lt m (length w))
        where
          go : Dec (m < a) → Dec (m < a + n) → Dec (m < length w) → get_or v m 0 ≡ get_or ((take a w ++ (js ++ drop (a + n) w)) ++ replicate (fill_count (take a w ++ (js ++ drop (a + n) w))) 0) m 0
          go (yes b) c e = sym (new_before w js z a n ends (part_in js d).0 m b ∙ get_or-take D v m 0 (omega (arith, w_long, ends)))
          go (no b) (yes c) e = absurd (o (m - a) (omega arith) (omega arith))
          go (no b) (no c) (yes e) = sym (new_after w js z a n ends (part_in js d).0 m (omega arith) e ∙ get_or-take D v m 0 (omega (arith, w_long)))
          go (no b) (no c) (no e) =
              zero_past m (omega (arith, w_long)) ∙ sym (zeros_at (fill_count (take a w ++ (js ++ drop (a + n) w))) (m - length w)) ∙ sym (new_past w js z a n ends (part_in js d).0 (m - length w))
              ∙ ap (λ (k : ℕ). get_or ((take a w ++ (js ++ drop (a + n) w)) ++ z) k 0) (let f : length w + (m - length w) ≡ m = omega arith in f)
