-- A file with the indices of one part in another order: its words outside the part are the first file's, and it passes reading as that does.
use Rattle.std.specs.Prelude.{ℕ, suc, ◌+◌, ◌-◌, ◌*◌, ◌/◌, ◌%◌, ◌≤◌, ◌<◌, Bool, true, ◌||◌, ◌≡◌, refl, eqb, get_or, take, drop}
use Rattle.std.proofs.Math.Decide.{dec_lt}
use native.Mathlib.Omega.{arith}
use Rattle.std.proofs.Math.Bool.{false, not}
use Rattle.std.proofs.Common.{true≢false, ◌∙◌, subst, length-drop, take-append-drop, ext_get_or, get_or-drop, get_or-take, length-take-le}
use mathlib.Core.List.{List, ◌++◌, map, zip_with}
use Rattle.std.proofs.Math.Path.{sym, ap}
use Rattle.std.proofs.Math.ListN.{length}
use Rattle.definition.specs.Block.{stream_of}
use Rattle.definition.specs.Layout.{Kind, coin, index, later_count, layout, message, out, out_layout}
use Rattle.definition.specs.Lists.{first_true}
use Rattle.definition.specs.Reading.{blocks_test, body_tests, check_test, fill_test, length_test, out_of_range, range_test, reading, sheet_test, stream_tests}
use Rattle.definition.specs.Sheet.{Edition, Sheet, sheet_length, sheet_of}
use Rattle.definition.specs.Verdict.{◌then◌, accepted, refuse_at, refuse_if}
use Rattle.list_laws.specs.All.{All, all_places, at_place}
use Rattle.layouts.specs.FileWords.{stream_length}
use Rattle.layouts.proofs.LayoutByRound.{starts_grow}
use Rattle.layouts.specs.Levels.{level_of, out_coin_count, round_count, round_start, rounds_of}
use Rattle.layouts.proofs.SheetLevels.{rules_back, rules_front, sheet_front}
use Rattle.layouts.specs.Tests.{all_false, at_none, none_true, then_passes}
use Rattle.completeness.specs.Faults.{Part, PartDue, combination, due_of, finals, fold, outs, part_length, part_start, part_words, sheet_in, shifts, words}
use Rattle.completeness.specs.PairsByNumber.{part_length_lem, part_word_lem}
use Rattle.completeness.specs.PartsByNumber.{ends, outs_cases, outs_first, part_below, part_kind_lem, part_kind}
use Rattle.completeness.proofs.SameVerdict.{Ordered, ordered}
use Rattle.completeness.specs.TestsByNumber.{zip_at, zip_length}
use Rattle.dependence.specs.Changes.{Indices, Reordered}
use Rattle.dependence.specs.Orders.{perm_all}

-- the tests that make up reading's acceptance
tests : (ed : Edition) (file : List ℕ) → reading ed file ≡ accepted →
    (length_test file ≡ accepted) × (blocks_test (sheet_length ed + length (layout (sheet_in ed file))) (length file / 512) ≡ accepted)
    × (range_test (sheet_in ed file) (sheet_length ed) (layout (sheet_in ed file)) (stream_of file) ≡ accepted) × (fill_test (sheet_length ed + length (layout (sheet_in ed file))) (stream_of file) ≡ accepted)
unfolding reading stream_tests body_tests
tests ed file e =
    let a = then_passes (length_test file) _ e in
    let b = then_passes (check_test file) _ a.1 in
    let c = then_passes (sheet_test ed (stream_of file)) _ b.1 in
    let d = then_passes (blocks_test (sheet_length ed + length (layout (sheet_in ed file))) (length file / 512)) _ c.1 in
    let f = then_passes (range_test (sheet_in ed file) (sheet_length ed) (layout (sheet_in ed file)) (stream_of file)) _ d.1 in
    (a.0, d.0, f.0, f.1)

is_index : Kind → Bool
is_index message = false
is_index coin = false
is_index (out l) = false
is_index (index n) = true

-- a part whose words are no indices
abbrev pub Plain : Part → Type 0
Plain (words m) = Unit {0}
Plain (outs i) = Unit {0}
Plain (combination i) = Unit {0}
Plain (fold i) = Unit {0}
Plain (shifts i) = ⊥
Plain finals = ⊥

plain_kind : (h : Sheet) (p : Part) → Plain p → (j : ℕ) → j < part_length h p → is_index (part_kind h p j) ≡ false
unfolding part_kind part_length is_index
plain_kind h (words m) t j l = refl
plain_kind h (outs i) t j l =
    let o = out_layout h.spelling (out_coin_count h) (level_of h (suc i)) in
    outs_cases h.spelling (out_coin_count h) (level_of h (suc i)) j l
    (λ m u q. ap is_index (ap (λ (n : ℕ). get_or o n message) q ∙ outs_first h.spelling (out_coin_count h) (level_of h (suc i)) m u))
    (λ c. ap is_index c)
plain_kind h (combination i) t j l = refl
plain_kind h (fold i) t j l = refl
plain_kind h (shifts i) t j l = absurd t
plain_kind h finals t j l = absurd t

indices_kind : (h : Sheet) (p : Part) → Indices h p → (j : ℕ) → is_index (part_kind h p j) ≡ true
unfolding part_kind is_index
indices_kind h (words m) t j = absurd t
indices_kind h (outs i) t j = absurd t
indices_kind h (combination i) t j = absurd t
indices_kind h (fold i) t j = absurd t
indices_kind h (shifts i) t j = refl
indices_kind h finals t j = refl

-- all words of it are of one kind
one_kind : (h : Sheet) (p : Part) → Indices h p → (j : ℕ) → part_kind h p j ≡ part_kind h p 0
unfolding part_kind
one_kind h (words m) t j = refl
one_kind h (outs i) t j = absurd t
one_kind h (combination i) t j = refl
one_kind h (fold i) t j = refl
one_kind h (shifts i) t j = refl
one_kind h finals t j = refl

pub indices_due : (h : Sheet) (p : Part) → Indices h p → PartDue h p
indices_due h (words m) t = absurd t
indices_due h (outs i) t = absurd t
indices_due h (combination i) t = absurd t
indices_due h (fold i) t = absurd t
indices_due h (shifts i) t = t
indices_due h finals t = tt

-- where the shift indices of round i + 1 end, and where other rounds begin
module _ (ed : Edition) (h : Sheet) where
  pub shifts_within : (i : ℕ) → (round_start ed h (suc i) ≤ part_start ed h (shifts i)) × (part_start ed h (shifts i) + part_length h (shifts i) ≡ round_start ed h (suc (suc i)))
  unfolding part_start part_length round_start round_count later_count
  shifts_within i = let c = ends ed h (level_of h (suc i)).size in (omega arith, omega (arith, c.3))

  pub in_order : (i j : ℕ) → i ≤ j → round_start ed h i ≤ round_start ed h j
  in_order i j l = let e : i + (j - i) ≡ j = omega arith in rw e at (starts_grow ed h i (j - i))

  pub finals_start : round_start ed h (suc (rounds_of h)) ≤ part_start ed h finals
  unfolding part_start
  finals_start = omega arith

  pub indices_end : (p : Part) → Indices h p → part_start ed h p + part_length h p ≤ due_of ed h
  indices_end (words m) t = absurd t
  indices_end (outs i) t = absurd t
  indices_end (combination i) t = absurd t
  indices_end (fold i) t = absurd t
  indices_end (shifts i) t = omega (arith, (shifts_within i).1, in_order (suc (suc i)) (suc (rounds_of h)) (omega arith), finals_start)
  indices_end finals t = omega arith

module _ (ed : Edition) (x y : List ℕ) (p : Part) (ip : Indices (sheet_in ed x) p) (passed : reading ed x ≡ accepted) (t : Reordered ed x p y) where
  abbrev v : List ℕ
  v = stream_of x

  abbrev w : List ℕ
  w = stream_of y

  abbrev h : Sheet
  h = sheet_in ed x

  abbrev M : ℕ
  M = rounds_of h

  abbrev n₀ : ℕ
  n₀ = sheet_length ed

  abbrev ks : List Kind
  ks = layout h

  pub ov : Ordered ed (stream_of x)
  ov = ordered ed x passed

  due : PartDue h p
  due = indices_due h p ip

  same_length : length w ≡ length v
  same_length = stream_length y ∙ ap (λ (n : ℕ). 127 * (n / 512)) t.bytes ∙ sym (stream_length x)

  pub full_w : due_of ed h ≤ length w
  full_w = omega (arith, ov.full, same_length)

  -- a word number is in the part, or not
  by_cases : {P : Type 0} (n : ℕ) → ((j : ℕ) → j < part_length h p → n ≡ part_start ed h p + j → P) → (((j : ℕ) → j < part_length h p → n ≡ part_start ed h p + j → ⊥) → P) → P
  by_cases {P} n inside other = go (dec_lt n (part_start ed h p)) (dec_lt n (part_start ed h p + part_length h p))
    where
      go : Dec (n < part_start ed h p) → Dec (n < part_start ed h p + part_length h p) → P
      go (yes a) b = other (λ j l e. omega arith)
      go (no a) (yes b) = inside (n - part_start ed h p) (omega arith) (omega arith)
      go (no a) (no b) = other (λ j l e. omega arith)

  -- ---- the sheet

  sheet_word : (n : ℕ) → n < n₀ → get_or v n 0 ≡ get_or w n 0
  sheet_word n l = t.outside n (λ j u e. omega (arith, (part_below ed h p due j u).0))

  long_v : length (take n₀ v) ≡ n₀
  long_v = length-take-le n₀ v (omega (arith, ov.full, ov.kinds))

  long_w : length (take n₀ w) ≡ n₀
  long_w = length-take-le n₀ w (omega (arith, full_w, ov.kinds))

  front_same : take n₀ v ≡ take n₀ w
  front_same = ext_get_or 0 (take n₀ v) (take n₀ w) (long_v ∙ sym long_w)
      (λ i l. let u : i < n₀ = omega (arith, long_v) in get_or-take n₀ v i 0 u ∙ sheet_word i u ∙ sym (get_or-take n₀ w i 0 u))

  front_passed : sheet_test ed (take n₀ v) ≡ accepted
  front_passed = rules_back ed (take n₀ v) long_v (drop n₀ v) (ap (sheet_test ed) (take-append-drop n₀ v) ∙ ov.sheet)

  -- y's words are the same front and others
  other_is : take n₀ v ++ drop n₀ w ≡ w
  other_is = ap (λ (u : List ℕ). u ++ drop n₀ w) front_same ∙ take-append-drop n₀ w

  sheet_w : sheet_test ed w ≡ accepted
  sheet_w = ap (sheet_test ed) (sym other_is) ∙ rules_front ed (take n₀ v) long_v front_passed (drop n₀ w)

  pub sheet_same : sheet_in ed y ≡ sheet_in ed x
  sheet_same =
      ap (sheet_of ed) (sym other_is) ∙ sheet_front ed (take n₀ v) long_v front_passed (drop n₀ w)
      ∙ sym (ap (sheet_of ed) (sym (take-append-drop n₀ v)) ∙ sheet_front ed (take n₀ v) long_v front_passed (drop n₀ v))

  -- ---- the words of the other parts

  pub kind_at : (q : Part) → PartDue h q → (j : ℕ) → j < part_length h q → (z : ℕ) → n₀ + z ≡ part_start ed h q + j → get_or ks z message ≡ part_kind h q j
  kind_at = part_kind_lem ed h ov.long

  off_plain : (q : Part) → PartDue h q → Plain q → (j : ℕ) → j < part_length h q → (m : ℕ) → m < part_length h p → part_start ed h q + j ≡ part_start ed h p + m → ⊥
  off_plain q d s j l m u e =
      let b = (part_below ed h q d j l).0 in
      let z = part_start ed h q + j - n₀ in
      true≢false (sym (indices_kind h p ip m) ∙ ap is_index (sym (kind_at p due m u z (omega arith)) ∙ kind_at q d j l z (omega arith)) ∙ plain_kind h q s j l)

  pub apart_same : (q : Part) → PartDue h q → ((j : ℕ) → j < part_length h q → (m : ℕ) → m < part_length h p → part_start ed h q + j ≡ part_start ed h p + m → ⊥) → part_words ed h v q ≡ part_words ed h w q
  apart_same q d o =
      let e = part_length_lem ed h v ov.full q d in
      ext_get_or 0 (part_words ed h v q) (part_words ed h w q) (e ∙ sym (part_length_lem ed h w full_w q d))
      (λ j l. let u : j < part_length h q = omega (arith, e) in
      part_word_lem ed h v ov.full q j u ∙ t.outside (part_start ed h q + j) (λ m g k. o j u m g k) ∙ sym (part_word_lem ed h w full_w q j u))

  pub part_same : (q : Part) → PartDue h q → Plain q → part_words ed h v q ≡ part_words ed h w q
  part_same q d s = apart_same q d (off_plain q d s)

  -- all words from a number on, past the part
  pub rest_same : (a : ℕ) → part_start ed h p + part_length h p ≤ a → drop a v ≡ drop a w
  rest_same a l = ext_get_or 0 (drop a v) (drop a w) (length-drop a v ∙ ap (λ (n : ℕ). n - a) (sym same_length) ∙ sym (length-drop a w))
      (λ i u. get_or-drop a v i 0 ∙ t.outside (a + i) (λ j g e. omega arith) ∙ sym (get_or-drop a w i 0))

  -- ---- reading

  pub enough : (length ks ≤ length (drop n₀ v)) × (length ks ≤ length (drop n₀ w))
  enough = (omega (arith, length-drop n₀ v, ov.full, ov.kinds), omega (arith, length-drop n₀ w, full_w, ov.kinds))

  abbrev Good : Kind → ℕ → Type 0
  Good k n = out_of_range h k n ≡ false

  pub good_at : (j : ℕ) → j < length ks → Good (get_or ks j message) (get_or (drop n₀ v) j 0)
  unfolding range_test
  good_at j l =
      sym (zip_at (out_of_range h) message 0 ks (drop n₀ v) j l enough.0)
      ∙ at_place (λ (b : Bool). b ≡ false) (zip_with (out_of_range h) ks (drop n₀ v)) false (all_false 5 n₀ _ (tests ed x passed).2) j (omega (arith, zip_length (out_of_range h) message 0 ks (drop n₀ v) enough.0))

  -- the part's words, in each order
  good_part : All (Good (part_kind h p 0)) (part_words ed h w p)
  good_part = perm_all (Good (part_kind h p 0)) t.order (all_places (Good (part_kind h p 0)) (part_words ed h v p) 0 (λ j l.
      let u : j < part_length h p = omega (arith, l, part_length_lem ed h v ov.full p due) in
      let b = part_below ed h p due j u in
      let z = part_start ed h p + j - n₀ in
      let e : n₀ + z ≡ part_start ed h p + j = omega (arith, b.0) in
      subst (λ (n : ℕ). Good (part_kind h p 0) n) (get_or-drop n₀ v z 0 ∙ ap (λ (n : ℕ). get_or v n 0) e ∙ sym (part_word_lem ed h v ov.full p j u))
      (subst (λ (k : Kind). Good k (get_or (drop n₀ v) z 0)) (kind_at p due j u z e ∙ one_kind h p ip j) (good_at z (omega (arith, b.1, ov.kinds))))))

  good_other : (j : ℕ) → j < length ks → Good (get_or ks j message) (get_or (drop n₀ w) j 0)
  good_other j l = by_cases (n₀ + j)
      (λ m u e. subst (λ (k : Kind). Good k (get_or (drop n₀ w) j 0)) (sym (kind_at p due m u j e ∙ one_kind h p ip m))
      (subst (λ (n : ℕ). Good (part_kind h p 0) n) (part_word_lem ed h w full_w p m u ∙ ap (λ (n : ℕ). get_or w n 0) (sym e) ∙ sym (get_or-drop n₀ w j 0))
      (at_place (Good (part_kind h p 0)) (part_words ed h w p) 0 good_part m (omega (arith, part_length_lem ed h w full_w p due)))))
      (λ o. subst (λ (n : ℕ). Good (get_or ks j message) n) (get_or-drop n₀ v j 0 ∙ t.outside (n₀ + j) o ∙ sym (get_or-drop n₀ w j 0)) (good_at j l))

  range_w : range_test h n₀ ks w ≡ accepted
  unfolding range_test
  range_w = at_none 5 _ (none_true n₀ _ (all_places (λ (b : Bool). b ≡ false) (zip_with (out_of_range h) ks (drop n₀ w)) false (λ j l.
      let u : j < length ks = omega (arith, zip_length (out_of_range h) message 0 ks (drop n₀ w) enough.1) in
      zip_at (out_of_range h) message 0 ks (drop n₀ w) j u enough.1 ∙ good_other j u)))

  fill_w : fill_test (n₀ + length ks) w ≡ accepted
  unfolding fill_test part_start
  fill_w =
      ap (λ (l : List ℕ). refuse_at 6 (first_true (n₀ + length ks) (map (λ n. not (eqb n 0)) l))) (sym (rest_same (n₀ + length ks) (omega (arith, indices_end ed h p ip, ov.kinds)))) ∙ (tests ed x passed).3

  body_w : body_tests (sheet_in ed y) n₀ (layout (sheet_in ed y)) (length y / 512) w ≡ accepted
  unfolding body_tests ◌then◌
  body_w =
      ap (λ (g : Sheet). body_tests g n₀ (layout g) (length y / 512) w) sheet_same
      ∙ (λ i. blocks i then range_w i then fill_w i)
    where
      blocks : blocks_test (n₀ + length ks) (length y / 512) ≡ accepted
      blocks = ap (λ (n : ℕ). blocks_test (n₀ + length ks) (n / 512)) t.bytes ∙ (tests ed x passed).1

  -- READING passes the other file too.
  pub reads : reading ed y ≡ accepted
  unfolding reading stream_tests length_test ◌then◌
  reads = λ i. (ap (λ (n : ℕ). refuse_if 1 0 (eqb n 0 || not (eqb (n % 512) 0))) t.bytes ∙ (tests ed x passed).0) i then t.checks i then sheet_w i then body_w i
