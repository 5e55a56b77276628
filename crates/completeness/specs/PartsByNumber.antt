-- The parts of the stream by number are the words after the sheet, all of them, each with the kind that the layout has there.
use Prim.Native.Nat.{ℕ, zero, suc, ◌+◌, ◌-◌, ◌*◌, ◌≤◌, ◌<◌}
use Rattle.std.proofs.Math.Decide.{dec_lt}
use Rattle.std.proofs.Common.{add-zero, ◌∙◌}
use native.Mathlib.Omega.{arith}
use mathlib.Core.List.{List, ◌++◌, flat_map}
use Rattle.std.specs.Prelude.{◌≡◌, refl}
use Rattle.std.proofs.Math.Path.{sym, ap}
use Rattle.std.proofs.Math.ListN.{get_or, replicate, get_or-replicate, get_or-append}
use Rattle.std.proofs.Math.Seq.{get_or-append-add, get_or-drop}
use Rattle.definition.specs.Field.{Spelling, four, one, word_count}
use Rattle.definition.specs.Layout.{Kind, coin, index, later_count, layout, message, out, out_layout, rest_layout, words_due}
use Rattle.definition.specs.Sheet.{Edition, Level, Sheet, final_count, sheet_length, shift_count}
use Rattle.list_laws.specs.Lists.{get_d_after_run, get_d_run}
use Rattle.list_laws.specs.NumberedParts.{joined}
use Rattle.layouts.proofs.LayoutByRound.{after_start, after_kinds, kinds_length, last_kinds, round_kinds, starts_after, starts_grow, words_due_lem}
use Rattle.layouts.proofs.LayoutFacts.{outs_length}
use Rattle.layouts.specs.KindsAfter.{later_layout}
use Rattle.layouts.specs.Levels.{level_of, out_coin_count, round_count, round_start, rounds_of, words_for}
use Rattle.layouts.specs.LawfulSheets.{Paired}
use Rattle.layouts.specs.Spellings.{count_add, count_one}
use Rattle.completeness.specs.Faults.{Part, PartDue, combination, due_of, finals, fold, outs, part_length, part_start, shifts, words}
use Rattle.completeness.specs.Numbered.{count_of, final, replies, start_of, table}

-- the kind of a part's words: of an out coin's words the first has one of its own
unfoldable pub part_kind : Sheet → Part → ℕ → Kind
part_kind h (words m) j = message
part_kind h (outs i) j = get_or (out_layout h.spelling (out_coin_count h) (level_of h (suc i))) j message
part_kind h (combination i) j = coin
part_kind h (fold i) j = coin
part_kind h (shifts i) j = index (shift_count (level_of h i))
part_kind h finals j = index (shift_count (level_of h (rounds_of h)))

-- word j of s out coins is the first of one of them, or of kind coin
pub outs_cases : {C : Type 0} (σ : Spelling) (s : ℕ) (l : Level) (j : ℕ) → j < word_count σ s → ((m : ℕ) → m < s → j ≡ word_count σ m → C) → (get_or (out_layout σ s l) j message ≡ coin → C) → C
unfolding word_count out_layout flat_map
outs_cases one s l j u first other = first j u refl
outs_cases four zero l j u first other = absurd (omega arith)
outs_cases four (suc s) l zero u first other = first 0 (omega arith) refl
outs_cases four (suc s) l (suc zero) u first other = other refl
outs_cases four (suc s) l (suc (suc zero)) u first other = other refl
outs_cases four (suc s) l (suc (suc (suc zero))) u first other = other refl
outs_cases four (suc s) l (suc (suc (suc (suc j)))) u first other = outs_cases four s l j (omega arith) (λ m v e. first (suc m) (omega arith) (omega arith)) other

pub outs_first : (σ : Spelling) (s : ℕ) (l : Level) (m : ℕ) → m < s → get_or (out_layout σ s l) (word_count σ m) message ≡ out l
unfolding word_count out_layout flat_map
outs_first one s l m u = get_or-replicate s m (out l) message u
outs_first four s l m u = go s m (4 * m) u refl
  where
    go : (t k n : ℕ) → k < t → n ≡ 4 * k → get_or (out_layout four t l) n message ≡ out l
    go zero k n v e = absurd (omega arith)
    go (suc t) zero zero v e = refl
    go (suc t) zero (suc n) v e = absurd (omega arith)
    go (suc t) (suc k) zero v e = absurd (omega arith)
    go (suc t) (suc k) (suc zero) v e = absurd (omega arith)
    go (suc t) (suc k) (suc (suc zero)) v e = absurd (omega arith)
    go (suc t) (suc k) (suc (suc (suc zero))) v e = absurd (omega arith)
    go (suc t) (suc k) (suc (suc (suc (suc n)))) v e = go t k n (omega arith) (omega arith)

pub outs_start : (σ : Spelling) (s : ℕ) (l : Level) → 0 < s → get_or (out_layout σ s l) 0 message ≡ out l
unfolding out_layout flat_map
outs_start one zero l u = absurd (omega arith)
outs_start one (suc s) l u = refl
outs_start four zero l u = absurd (omega arith)
outs_start four (suc s) l u = refl

pub outs_other : (σ : Spelling) (s : ℕ) (l : Level) (m : ℕ) → 0 < s → suc m < word_count σ 1 → get_or (out_layout σ s l) (suc m) message ≡ coin
unfolding out_layout flat_map word_count
outs_other one s l m u v = absurd (omega arith)
outs_other four zero l m u v = absurd (omega arith)
outs_other four (suc s) l zero u v = refl
outs_other four (suc s) l (suc zero) u v = refl
outs_other four (suc s) l (suc (suc zero)) u v = refl
outs_other four (suc s) l (suc (suc (suc m))) u v = absurd (omega arith)

-- the part that a number is in, of parts one after the other
pub located : (start count : ℕ → ℕ) → ((i : ℕ) → start (suc i) ≡ start i + count i) → (m n : ℕ) → start 0 ≤ n → n < start m →
    (i : ℕ) × (i < m) × ((y : ℕ) × (y < count i) × (n ≡ start i + y))
located start count step zero n l u = absurd (omega arith)
located start count step (suc m) n l u = go (dec_lt n (start m)) (located start count step m n l)
  where
    go : Dec (n < start m) → (n < start m → (i : ℕ) × (i < m) × ((y : ℕ) × (y < count i) × (n ≡ start i + y))) → (i : ℕ) × (i < suc m) × ((y : ℕ) × (y < count i) × (n ≡ start i + y))
    go (yes v) before = let r = before v in (r.0, omega (arith, r.1), r.2)
    go (no v) before = (m, omega arith, (n - start m, omega (arith, step m), omega arith))

-- a word number that is in a due part
abbrev pub InPart : Edition → Sheet → ℕ → Type 0
InPart ed h n = (x : Part) × PartDue h x × ((j : ℕ) × (j < part_length h x) × (n ≡ part_start ed h x + j))

module _ (ed : Edition) (h : Sheet) where
  -- where the parts of a round of n table entries end
  pub ends : (n : ℕ) → (words_for h (n + out_coin_count h) ≡ words_for h n + words_for h (out_coin_count h))
      × (words_for h (n + (out_coin_count h + out_coin_count h)) ≡ words_for h n + (words_for h (out_coin_count h) + words_for h (out_coin_count h)))
      × (words_for h (n + (out_coin_count h + (out_coin_count h + 1))) ≡ words_for h n + (words_for h (out_coin_count h) + (words_for h (out_coin_count h) + words_for h 1)))
      × (words_for h (n + (out_coin_count h + (out_coin_count h + 2))) ≡ words_for h n + (words_for h (out_coin_count h) + (words_for h (out_coin_count h) + words_for h 2)))
      × (words_for h 2 ≡ words_for h 1 + words_for h 1) × (1 ≤ words_for h 1)
  ends n =
      let σ = h.spelling in
      let s = out_coin_count h in
      let a = count_add σ in
      (a n s, omega (arith, a n (s + s), a s s), omega (arith, a n (s + (s + 1)), a s (s + 1), a s 1), omega (arith, a n (s + (s + 2)), a s (s + 2), a s 2), a 1 1, (count_one σ).0)

  -- the round that a word number is in
  locate : (m n : ℕ) → sheet_length ed ≤ n → n < round_start ed h m → (i : ℕ) × (i < m) × ((y : ℕ) × (y < round_count h i) × (n ≡ round_start ed h i + y))
  unfolding round_start
  locate m n l u = located (round_start ed h) (round_count h) (λ i. refl) m n l u

  -- and its part in the round
  in_round : (i y : ℕ) → i ≤ rounds_of h → y < round_count h i → InPart ed h (round_start ed h i + y)
  unfolding round_count later_count part_start part_length start_of count_of
  in_round zero y l u = go (dec_lt y n)
    where
      n : ℕ
      n = words_for h (level_of h 0).size

      go : Dec (y < n) → InPart ed h (round_start ed h 0 + y)
      go (yes v) = (words (table 0), l, (y, v, refl))
      go (no v) = (fold 0, l, (y - n, omega arith, omega arith))
  in_round (suc i) y l u = go (dec_lt y n) (dec_lt y (n + s)) (dec_lt y (n + (s + s))) (dec_lt y (n + (s + (s + words_for h 1)))) (dec_lt y (n + (s + (s + words_for h 2))))
    where
      n : ℕ
      n = words_for h (level_of h (suc i)).size

      s : ℕ
      s = words_for h (out_coin_count h)

      go : Dec (y < n) → Dec (y < n + s) → Dec (y < n + (s + s)) → Dec (y < n + (s + (s + words_for h 1))) → Dec (y < n + (s + (s + words_for h 2))) → InPart ed h (round_start ed h (suc i) + y)
      go (yes a) b c d e = (words (table (suc i)), l, (y, a, refl))
      go (no a) (yes b) c d e = (outs i, l, (y - n, omega arith, omega arith))
      go (no a) (no b) (yes c) d e = (words (replies (suc i)), (omega arith, l), (y - (n + s), omega arith, omega (arith, ends (level_of h (suc i)).size)))
      go (no a) (no b) (no c) (yes d) e = (combination i, l, (y - (n + (s + s)), omega arith, omega (arith, ends (level_of h (suc i)).size)))
      go (no a) (no b) (no c) (no d) (yes e) = (fold (suc i), l, (y - (n + (s + (s + words_for h 1))), omega (arith, ends (level_of h (suc i)).size), omega (arith, ends (level_of h (suc i)).size)))
      go (no a) (no b) (no c) (no d) (no e) = (shifts i, l, (y - (n + (s + (s + words_for h 2))), omega arith, omega (arith, ends (level_of h (suc i)).size)))

  -- every word after the sheet is a word of a due part,
  pub every_word : (n : ℕ) → sheet_length ed ≤ n → n < due_of ed h → InPart ed h n
  unfolding part_start part_length start_of count_of
  every_word n l u = go (dec_lt n (round_start ed h (suc (rounds_of h)))) (dec_lt n (part_start ed h finals))
    where
      go : Dec (n < round_start ed h (suc (rounds_of h))) → Dec (n < part_start ed h finals) → InPart ed h n
      go (yes a) b =
          let r = locate (suc (rounds_of h)) n l a in
          let p = in_round r.0 r.2.0 (omega (arith, r.1)) r.2.1 in
          (p.0, p.1, (p.2.0, p.2.1, r.2.2 ∙ p.2.2))
      go (no a) (yes b) = (words final, tt, (n - round_start ed h (suc (rounds_of h)), omega arith, omega arith))
      go (no a) (no b) = (finals, tt, (n - part_start ed h finals, omega arith, omega arith))

  -- and the words of a due part are among them
  round_below : (i y : ℕ) → i ≤ rounds_of h → y < round_count h i → (sheet_length ed ≤ round_start ed h i + y) × (round_start ed h i + y < due_of ed h)
  unfolding round_start part_start
  round_below i y l u =
      let e : suc i + (rounds_of h - i) ≡ suc (rounds_of h) = omega arith in
      let g : round_start ed h (suc i) ≤ round_start ed h (suc (rounds_of h)) = rw e at (starts_grow ed h (suc i) (rounds_of h - i)) in
      (omega (arith, starts_after ed h i), omega (arith, g))

  pub part_below : (x : Part) → PartDue h x → (j : ℕ) → j < part_length h x → (sheet_length ed ≤ part_start ed h x + j) × (part_start ed h x + j < due_of ed h)
  unfolding part_start part_length start_of count_of round_count later_count
  part_below (words (table zero)) v j l = round_below 0 j v (omega arith)
  part_below (words (table (suc i))) v j l = round_below (suc i) j v (omega arith)
  part_below (words (replies zero)) v j l = absurd (omega (arith, v.0))
  part_below (words (replies (suc i))) v j l =
      let n = (level_of h (suc i)).size in
      omega (arith, round_below (suc i) (words_for h (n + out_coin_count h) + j) v.1 (omega (arith, ends n)))
  part_below (words final) v j l = omega (arith, starts_after ed h (suc (rounds_of h)))
  part_below (outs i) v j l = omega (arith, round_below (suc i) (words_for h (level_of h (suc i)).size + j) v (omega arith))
  part_below (combination i) v j l =
      let n = (level_of h (suc i)).size in
      omega (arith, round_below (suc i) (words_for h (n + (out_coin_count h + out_coin_count h)) + j) v (omega (arith, ends n)))
  part_below (fold zero) v j l = omega (arith, round_below 0 (words_for h (level_of h 0).size + j) v (omega arith))
  part_below (fold (suc i)) v j l =
      let n = (level_of h (suc i)).size in
      omega (arith, round_below (suc i) (words_for h (n + (out_coin_count h + (out_coin_count h + 1))) + j) v (omega (arith, ends n)))
  part_below (shifts i) v j l =
      let n = (level_of h (suc i)).size in
      omega (arith, round_below (suc i) (words_for h (n + (out_coin_count h + (out_coin_count h + 2))) + j) v (omega (arith, ends n)))
  part_below finals v j l = omega (arith, starts_after ed h (suc (rounds_of h)))

  module _ (long : Paired h) where
    pub due_is : words_due ed h ≡ due_of ed h
    unfolding part_start part_length
    due_is = omega (arith, words_due_lem ed h long)

    -- the kinds of round i, and of what follows the rounds
    round_kind : (i y z : ℕ) → i ≤ rounds_of h → y < round_count h i → sheet_length ed + z ≡ round_start ed h i + y → get_or (layout h) z message ≡ get_or (round_kinds ed h i) y message
    unfolding joined
    round_kind i y z l u e =
        let q : z ≡ round_start ed h i + y - sheet_length ed + 0 = omega arith in
        ap (λ (m : ℕ). get_or (layout h) m message) q ∙ sym (get_or-drop (round_start ed h i + y - sheet_length ed) (layout h) 0 message)
        ∙ ap (λ (t : List Kind). get_or t 0 message) (after_start ed h long i (suc (rounds_of h - i)) y (omega arith))
        ∙ get_or-drop y (joined (round_kinds ed h) (last_kinds ed h) i (suc (rounds_of h - i))) 0 message
        ∙ ap (λ (m : ℕ). get_or (joined (round_kinds ed h) (last_kinds ed h) i (suc (rounds_of h - i))) m message) (add-zero y)
        ∙ get_or-append (round_kinds ed h i) (joined (round_kinds ed h) (last_kinds ed h) (suc i) (rounds_of h - i)) message y (omega (arith, kinds_length ed h i))

    last_kind : (y z : ℕ) → sheet_length ed + z ≡ round_start ed h (suc (rounds_of h)) + y → get_or (layout h) z message ≡ get_or (last_kinds ed h) y message
    unfolding joined
    last_kind y z e =
        let q : z ≡ round_start ed h (suc (rounds_of h)) + y - sheet_length ed + 0 = omega arith in
        ap (λ (m : ℕ). get_or (layout h) m message) q ∙ sym (get_or-drop (round_start ed h (suc (rounds_of h)) + y - sheet_length ed) (layout h) 0 message)
        ∙ ap (λ (t : List Kind). get_or t 0 message) (after_start ed h long (suc (rounds_of h)) 0 y (omega arith))
        ∙ get_or-drop y (last_kinds ed h) 0 message ∙ ap (λ (m : ℕ). get_or (last_kinds ed h) m message) (add-zero y)

    -- what follows the table in round i + 1, and its coins after its replies
    after_table : (i y z : ℕ) → i < rounds_of h → words_for h (level_of h (suc i)).size + y < round_count h (suc i) → sheet_length ed + z ≡ round_start ed h (suc i) + (words_for h (level_of h (suc i)).size + y) →
        get_or (layout h) z message ≡ get_or (after_kinds ed h (suc i)) y message
    unfolding round_kinds
    after_table i y z v u e =
        let n = words_for h (level_of h (suc i)).size in
        round_kind (suc i) (n + y) z v u e ∙ get_d_after_run message n message (after_kinds ed h (suc i)) y

    after_outs : (i y z : ℕ) → i < rounds_of h → y < words_for h (out_coin_count h) + later_count h.spelling (level_of h i) →
        sheet_length ed + z ≡ round_start ed h (suc i) + (words_for h (level_of h (suc i)).size + (words_for h (out_coin_count h) + y)) →
        get_or (layout h) z message ≡ get_or (replicate (words_for h (out_coin_count h)) message ++ later_layout h.spelling (level_of h i)) y message
    unfolding after_kinds round_count
    after_outs i y z v u e =
        let o = out_layout h.spelling (out_coin_count h) (level_of h (suc i)) in
        let rest = replicate (words_for h (out_coin_count h)) message ++ later_layout h.spelling (level_of h i) in
        after_table i (words_for h (out_coin_count h) + y) z v (omega arith) e
        ∙ ap (λ (m : ℕ). get_or (o ++ rest) (m + y) message) (sym (outs_length h.spelling (out_coin_count h) (level_of h (suc i))))
        ∙ get_or-append-add o rest y message

    later : (i y z : ℕ) → i < rounds_of h → y < later_count h.spelling (level_of h i) →
        sheet_length ed + z ≡ round_start ed h (suc i) + (words_for h (level_of h (suc i)).size + (words_for h (out_coin_count h) + (words_for h (out_coin_count h) + y))) →
        get_or (layout h) z message ≡ get_or (later_layout h.spelling (level_of h i)) y message
    later i y z v u e =
        let s = words_for h (out_coin_count h) in
        after_outs i (s + y) z v (omega arith) e ∙ get_d_after_run message s message (later_layout h.spelling (level_of h i)) y

    pub part_kind_lem : (x : Part) → PartDue h x → (j : ℕ) → j < part_length h x → (z : ℕ) → sheet_length ed + z ≡ part_start ed h x + j → get_or (layout h) z message ≡ part_kind h x j
    unfolding part_start part_length part_kind start_of count_of round_kinds after_kinds last_kinds rest_layout round_count later_count
    part_kind_lem (words (table zero)) v j l z e = round_kind 0 j z v (omega arith) e ∙ get_d_run message (words_for h (level_of h 0).size) message _ j l
    part_kind_lem (words (table (suc i))) v j l z e = round_kind (suc i) j z v (omega arith) e ∙ get_d_run message (words_for h (level_of h (suc i)).size) message _ j l
    part_kind_lem (words (replies zero)) v j l z e = absurd (omega (arith, v.0))
    part_kind_lem (words (replies (suc i))) v j l z e =
        after_outs i j z v.1 (omega arith) (omega (arith, e, ends (level_of h (suc i)).size)) ∙ get_d_run message (words_for h (out_coin_count h)) message _ j l
    part_kind_lem (words final) v j l z e = last_kind j z e ∙ get_d_run message (words_for h (final_count (level_of h (rounds_of h)))) message _ j l
    part_kind_lem (outs i) v j l z e =
        let o = out_layout h.spelling (out_coin_count h) (level_of h (suc i)) in
        after_table i j z v (omega arith) (omega arith)
        ∙ get_or-append o (replicate (words_for h (out_coin_count h)) message ++ later_layout h.spelling (level_of h i)) message j (omega (arith, outs_length h.spelling (out_coin_count h) (level_of h (suc i))))
    part_kind_lem (combination i) v j l z e =
        let c = ends (level_of h (suc i)).size in
        later i j z v (omega (arith, c)) (omega (arith, e, c)) ∙ get_d_run message (words_for h 2) coin _ j (omega (arith, c))
    part_kind_lem (fold zero) v j l z e =
        let n = words_for h (level_of h 0).size in
        round_kind 0 (n + j) z v (omega arith) (omega arith) ∙ get_d_after_run message n message _ j ∙ get_or-replicate (words_for h 1) j coin message l
    part_kind_lem (fold (suc i)) v j l z e =
        let c = ends (level_of h (suc i)).size in
        later i (words_for h 1 + j) z v (omega (arith, c)) (omega (arith, e, c)) ∙ get_d_run message (words_for h 2) coin _ (words_for h 1 + j) (omega (arith, c))
    part_kind_lem (shifts i) v j l z e =
        later i (words_for h 2 + j) z v (omega arith) (omega (arith, e, ends (level_of h (suc i)).size))
        ∙ get_d_after_run message (words_for h 2) coin _ j ∙ get_or-replicate (level_of h i).repetitions j (index (shift_count (level_of h i))) message l
    part_kind_lem finals v j l z e =
        let b = level_of h (rounds_of h) in
        let n = words_for h (final_count b) in
        last_kind (n + j) z (omega arith) ∙ get_d_after_run message n message _ j ∙ get_or-replicate b.repetitions j (index (shift_count b)) message l
