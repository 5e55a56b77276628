-- The coins by part are all words of a coin list, each with the kind that the layout's coins have there; so the tests on out coins find in it
-- what they find in a stream.
use Prim.Native.Nat.{ℕ, zero, suc, ◌+◌, ◌-◌, ◌≤◌, ◌<◌}
use Rattle.std.proofs.Math.Decide.{dec_lt}
use Rattle.std.proofs.Common.{add-zero, zero-add, add-one, ◌∙◌, length-append, drop-drop, get_or-append-add, get_or-drop}
use native.Mathlib.Omega.{arith}
use mathlib.Core.List.{List, ◌++◌}
use Rattle.std.proofs.Math.Option.{none}
use Rattle.std.specs.Prelude.{◌≡◌, length, replicate}
use Rattle.std.proofs.Math.Path.{refl, sym, ap, subst}
use Rattle.std.proofs.Math.ListN.{get_or, drop, get_or-replicate, get_or-append}
use Rattle.std.proofs.lemmas.List.{length-replicate}
use Rattle.std.proofs.Math.Seq.{drop-append-add, drop_at}
use Rattle.definition.specs.Deciding.{out_before}
use Rattle.definition.specs.Field.{Element, Spelling, number_in}
use Rattle.definition.specs.Layout.{Kind, coin, coin_kinds, index, later_count, layout, message, out_layout}
use Rattle.definition.specs.Sheet.{Sheet, edition1, shift_count}
use Rattle.list_laws.specs.Lists.{get_d_after_run, get_d_run}
use Rattle.layouts.proofs.CoinsAfter.{kinds_all, kinds_last, kinds_next}
use Rattle.layouts.specs.KindsAfter.{kinds_after, later_layout}
use Rattle.layouts.specs.LawfulSheets.{Lawful, Paired}
use Rattle.layouts.proofs.LayoutByRound.{coins_due_lem}
use Rattle.layouts.proofs.LayoutFacts.{later_length, outs_length}
use Rattle.layouts.specs.Levels.{coin_count, coins_before, level_of, out_coin_count, rounds_of, words_for}
use Rattle.layouts.specs.Spellings.{count_add, count_one}
use Rattle.layouts.specs.WholeCoins.{IsOut}
use Rattle.completeness.specs.EqualOuts.{at_next, out_at}
use Rattle.completeness.specs.Faults.{Part, combination, finals, fold, outs, part_length, shifts, words}
use Rattle.completeness.specs.OutCoinsByPlace.{Placed}
use Rattle.completeness.specs.PartsByNumber.{located, part_kind}
use Rattle.completeness.proofs.StreamByNumber.{coins_grow}
use Rattle.refusals.specs.InputFaults.{CoinPart, coin_start, coins_due}

-- a position that is in a part of the coins
abbrev pub InCoins : Sheet → ℕ → Type 0
InCoins h n = (x : Part) × CoinPart h x × ((j : ℕ) × (j < part_length h x) × (n ≡ coin_start h x + j))

module _ (h : Sheet) where
  abbrev σ : Spelling
  σ = h.spelling

  abbrev M : ℕ
  M = rounds_of h

  abbrev s : ℕ
  s = words_for h (out_coin_count h)

  -- where the parts of a round end
  ends : (words_for h (out_coin_count h + 1) ≡ words_for h (out_coin_count h) + words_for h 1) × (words_for h (out_coin_count h + 2) ≡ words_for h (out_coin_count h) + words_for h 2)
      × (words_for h 2 ≡ words_for h 1 + words_for h 1) × (1 ≤ words_for h 1)
  ends = (count_add σ (out_coin_count h) 1, count_add σ (out_coin_count h) 2, count_add σ 1 1, (count_one σ).0)

  -- every position is in a part of the coins,
  in_round : (i y : ℕ) → i ≤ rounds_of h → y < coin_count h i → InCoins h (coins_before h i + y)
  unfolding coin_count coins_before later_count coin_start part_length
  in_round zero y l u = (fold 0, l, (y, u, refl))
  in_round (suc i) y l u = go (dec_lt y s) (dec_lt y (s + words_for h 1)) (dec_lt y (s + words_for h 2))
    where
      b : ℕ
      b = coins_before h (suc i)

      go : Dec (y < s) → Dec (y < s + words_for h 1) → Dec (y < s + words_for h 2) → InCoins h (coins_before h (suc i) + y)
      go (yes p) q r = (outs i, l, (y, p, refl))
      go (no p) (yes q) r = (combination i, l, (y - s, omega arith, omega arith))
      go (no p) (no q) (yes r) = (fold (suc i), l, (y - (s + words_for h 1), omega (arith, ends), omega (arith, ends)))
      go (no p) (no q) (no r) = (shifts i, l, (y - (s + words_for h 2), omega (arith, ends), omega (arith, ends)))

  pub every_coin : (n : ℕ) → n < coins_due h → InCoins h n
  unfolding coin_start part_length coins_before
  every_coin n u = go (dec_lt n (coins_before h (suc M)))
    where
      go : Dec (n < coins_before h (suc M)) → InCoins h n
      go (yes v) =
          let r = located (coins_before h) (coin_count h) (λ i. refl) (suc M) n (omega arith) v in
          let p = in_round r.0 r.2.0 (omega (arith, r.1)) r.2.1 in
          (p.0, p.1, (p.2.0, p.2.1, r.2.2 ∙ p.2.2))
      go (no v) = (finals, tt, (n - coins_before h (suc M), omega arith, omega arith))

  -- and the words of such a part have positions in the list
  round_below : (i y : ℕ) → i ≤ rounds_of h → y < coin_count h i → coins_before h i + y < coins_due h
  unfolding coins_before coin_start
  round_below i y l u =
      let e : suc i + (M - i) ≡ suc M = omega arith in
      let g : coins_before h (suc i) ≤ coins_before h (suc M) = rw e at (coins_grow h (suc i) (M - i)) in
      omega (arith, g)

  pub coin_below : (x : Part) → CoinPart h x → (j : ℕ) → j < part_length h x → coin_start h x + j < coins_due h
  unfolding coin_start part_length coin_count later_count coins_before
  coin_below (words m) d j l = absurd d
  coin_below (outs i) d j l = round_below (suc i) j d (omega arith)
  coin_below (combination i) d j l = omega (arith, round_below (suc i) (s + j) d (omega (arith, ends)))
  coin_below (fold zero) d j l = round_below 0 j d l
  coin_below (fold (suc i)) d j l = omega (arith, ends, round_below (suc i) (s + words_for h 1 + j) d (omega (arith, ends)))
  coin_below (shifts i) d j l = omega (arith, ends, round_below (suc i) (s + words_for h 2 + j) d (omega (arith, ends)))
  coin_below finals d j l = omega arith

  module _ (long : Paired h) where
    abbrev kinds : List Kind
    kinds = coin_kinds (layout h)

    pub kinds_due : length (coin_kinds (layout h)) ≡ coins_due h
    unfolding coin_start part_length
    kinds_due = coins_due_lem edition1 h long

    -- the kinds of the coins after fold coin i
    after : (i : ℕ) → i ≤ rounds_of h → drop (coins_before h (suc i)) kinds ≡ kinds_after h i
    unfolding coins_before coin_count
    after zero l =
        ap (λ (n : ℕ). drop n kinds) (zero-add (words_for h 1)) ∙ ap (drop (words_for h 1)) (kinds_all h long)
        ∙ drop_at (replicate (words_for h 1) coin) (kinds_after h 0) (words_for h 1) (length-replicate (words_for h 1) coin)
    after (suc i) l =
        let o = out_layout h.spelling (out_coin_count h) (level_of h (i + 1)) in
        let k = later_layout h.spelling (level_of h i) in
        let n = s + later_count σ (level_of h i) in
        sym (drop-drop n (coins_before h (suc i)) kinds) ∙ ap (drop n) (after i (omega arith) ∙ kinds_next h i (omega arith))
        ∙ sym (drop-drop (later_count σ (level_of h i)) s (o ++ (k ++ kinds_after h (i + 1))))
        ∙ ap (drop (later_count σ (level_of h i))) (drop_at o (k ++ kinds_after h (i + 1)) s (outs_length σ (out_coin_count h) (level_of h (i + 1))))
        ∙ drop_at k (kinds_after h (i + 1)) (later_count σ (level_of h i)) (later_length σ (level_of h i))
        ∙ ap (kinds_after h) (add-one i)

    kind_after : (i y : ℕ) → i ≤ rounds_of h → get_or kinds (coins_before h (suc i) + y) message ≡ get_or (kinds_after h i) y message
    kind_after i y l = sym (get_or-drop (coins_before h (suc i)) kinds y message) ∙ ap (λ (ks : List Kind). get_or ks y message) (after i l)

    -- in round i + 1
    round_kind : (i y : ℕ) → i < rounds_of h → get_or kinds (coins_before h (suc i) + y) message
        ≡ get_or (out_layout h.spelling (out_coin_count h) (level_of h (suc i)) ++ (later_layout h.spelling (level_of h i) ++ kinds_after h (suc i))) y message
    round_kind i y l =
        kind_after i y (omega arith) ∙ ap (λ (ks : List Kind). get_or ks y message) (kinds_next h i l)
        ∙ ap (λ (n : ℕ). get_or (out_layout σ (out_coin_count h) (level_of h n) ++ (later_layout σ (level_of h i) ++ kinds_after h n)) y message) (add-one i)

    later : (i y : ℕ) → i < rounds_of h → y < later_count h.spelling (level_of h i) → get_or kinds (coins_before h (suc i) + (s + y)) message ≡ get_or (later_layout h.spelling (level_of h i)) y message
    later i y l u =
        let o = out_layout σ (out_coin_count h) (level_of h (suc i)) in
        let k = later_layout σ (level_of h i) in
        round_kind i (s + y) l
        ∙ ap (λ (n : ℕ). get_or (o ++ (k ++ kinds_after h (suc i))) (n + y) message) (sym (outs_length σ (out_coin_count h) (level_of h (suc i))))
        ∙ get_or-append-add o (k ++ kinds_after h (suc i)) y message
        ∙ get_or-append k (kinds_after h (suc i)) message y (omega (arith, later_length σ (level_of h i)))

    at : (i n y : ℕ) → n ≡ coins_before h (suc i) + y → get_or kinds n message ≡ get_or kinds (coins_before h (suc i) + y) message
    at i n y e = ap (λ (m : ℕ). get_or kinds m message) e

    pub coin_kind : (x : Part) → CoinPart h x → (j : ℕ) → j < part_length h x → get_or (coin_kinds (layout h)) (coin_start h x + j) message ≡ part_kind h x j
    unfolding coin_start part_length part_kind later_count
    coin_kind (words m) d j l = absurd d
    coin_kind (outs i) d j l =
        let o = out_layout σ (out_coin_count h) (level_of h (suc i)) in
        round_kind i j d ∙ get_or-append o (later_layout σ (level_of h i) ++ kinds_after h (suc i)) message j (omega (arith, outs_length σ (out_coin_count h) (level_of h (suc i))))
    coin_kind (combination i) d j l =
        at i (coins_before h (suc i) + s + j) (s + j) (omega arith) ∙ later i j d (omega (arith, ends)) ∙ get_d_run message (words_for h 2) coin _ j (omega (arith, ends))
    coin_kind (fold zero) d j l =
        ap (λ (n : ℕ). get_or kinds n message) (zero-add j) ∙ ap (λ (ks : List Kind). get_or ks j message) (kinds_all h long) ∙ get_d_run message (words_for h 1) coin (kinds_after h 0) j l
    coin_kind (fold (suc i)) d j l =
        at i (coins_before h (suc i) + words_for h (out_coin_count h + 1) + j) (s + (words_for h 1 + j)) (omega (arith, ends)) ∙ later i (words_for h 1 + j) d (omega (arith, ends))
        ∙ get_d_run message (words_for h 2) coin _ (words_for h 1 + j) (omega (arith, ends))
    coin_kind (shifts i) d j l =
        at i (coins_before h (suc i) + words_for h (out_coin_count h + 2) + j) (s + (words_for h 2 + j)) (omega (arith, ends)) ∙ later i (words_for h 2 + j) d (omega (arith, ends))
        ∙ get_d_after_run message (words_for h 2) coin _ j ∙ get_or-replicate (level_of h i).repetitions j (index (shift_count (level_of h i))) message l
    coin_kind finals d j l =
        kind_after M j (omega arith) ∙ ap (λ (ks : List Kind). get_or ks j message) (kinds_last h M (omega arith))
        ∙ get_or-replicate (level_of h M).repetitions j (index (shift_count (level_of h M))) message l

-- ---- the out coins among them

module _ (h : Sheet) (law : Lawful h) where
  abbrev ks : List Kind
  ks = coin_kinds (layout h)

  abbrev start : ℕ → ℕ
  start i = coin_start h (outs i)

  every : (j : ℕ) → j < length ks → IsOut (get_or ks j message) → (i : ℕ) × (i < rounds_of h) × ((m : ℕ) × (m < words_for h (out_coin_count h)) × (j ≡ start i + m))
  unfolding part_kind part_length
  every j l o = let p = every_coin h j (omega (arith, kinds_due h law.paired)) in go p.0 p.1 p.2.0 p.2.1 p.2.2
    where
      no_out : (x : Part) → CoinPart h x → (i : ℕ) → i < part_length h x → j ≡ coin_start h x + i → IsOut (part_kind h x i)
      no_out x d i u e = subst IsOut (ap (λ (n : ℕ). get_or ks n message) e ∙ coin_kind h law.paired x d i u) o

      go : (x : Part) → CoinPart h x → (i : ℕ) → i < part_length h x → j ≡ coin_start h x + i → (i : ℕ) × (i < rounds_of h) × ((m : ℕ) × (m < words_for h (out_coin_count h)) × (j ≡ start i + m))
      go (words m) d i u e = absurd d
      go (outs k) d i u e = (k, d, (i, u, e))
      go (combination k) d i u e = absurd (no_out (combination k) d i u e)
      go (fold k) d i u e = absurd (no_out (fold k) d i u e)
      go (shifts k) d i u e = absurd (no_out (shifts k) d i u e)
      go finals d i u e = absurd (no_out finals d i u e)

  module _ (xs : List (Element h.spelling)) (enough : length ks ≤ length xs) where
    next : (x : Part) (d : CoinPart h x) (j : ℕ) (l : j < part_length h x) →
        out_at none ks xs (suc (coin_start h x + j)) ≡ out_before (out_at none ks xs (coin_start h x + j)) (part_kind h x j) (get_or xs (coin_start h x + j) (number_in h.spelling 0))
    next x d j l =
        let n = coin_start h x + j in
        let u : n < length ks = omega (arith, coin_below h x d j l, kinds_due h law.paired) in
        at_next (number_in h.spelling 0) none ks xs n u (omega (arith, u, enough)) ∙ (λ y. out_before (out_at none ks xs n) (coin_kind h law.paired x d j l y) (get_or xs n (number_in h.spelling 0)))

    -- fold coin 0 has no out coin before or in it
    first_fold : (j : ℕ) → j ≤ words_for h 1 → out_at none ks xs j ≡ none
    unfolding out_at coin_start part_length part_kind out_before
    first_fold zero l = refl
    first_fold (suc j) l =
        ap (λ (n : ℕ). out_at none ks xs (suc n)) (sym (zero-add j)) ∙ next (fold 0) (omega arith) j l ∙ ap (out_at none ks xs) (zero-add j) ∙ first_fold j (omega arith)

    fresh : (i : ℕ) → i < rounds_of h → out_at none ks xs (start i) ≡ none
    unfolding coin_start part_length part_kind out_before coins_before coin_count later_count
    fresh zero l = ap (out_at none ks xs) (zero-add (words_for h 1)) ∙ first_fold (words_for h 1) (omega arith)
    fresh (suc i) l =
        let t = (level_of h i).repetitions in
        let p : 1 ≤ t = law.once i (omega arith) in
        let d : i < rounds_of h = omega arith in
        let e : suc (coin_start h (shifts i) + (t - 1)) ≡ start (suc i) = omega (arith, p, ends h) in
        subst (λ (n : ℕ). out_at none ks xs n ≡ none) e (next (shifts i) d (t - 1) (omega (arith, p)))

  pub placed : Placed h (coin_kinds (layout h)) (λ i. coin_start h (outs i))
  unfolding part_kind part_length
  placed = record {
    inside = λ i m l u. omega (arith, coin_below h (outs i) l m u, kinds_due h law.paired);
    kind = λ i m l u. coin_kind h law.paired (outs i) l m u;
    every = every;
    fresh = fresh;
  }
