-- Deciding coin by coin is deciding: the folds come out one after the other, nothing is settled before the last coin treated, and that coin settles the outcome.
use Rattle.std.specs.Prelude.{ℕ, suc, ◌+◌, ◌-◌, ◌≤◌, ◌<◌, Bool, true, cond, ◌≡◌, ltb, take, drop}
use Rattle.std.proofs.Common.{add-zero, arith, ◌∙◌, take_all, get_or-append-add}
use Rattle.std.proofs.Math.Bool.{false, not}
use mathlib.Core.List.{List, [], ◌∷◌, ◌++◌, append_assoc, append-nil, flat_map, map, zip_with}
use Rattle.std.proofs.Math.Option.{Option, none, some}
use Rattle.std.proofs.Math.Path.{refl, sym, ap}
use Rattle.std.proofs.Math.Dec.{eqb}
use Rattle.std.proofs.Math.ListN.{length, get_or, length-append, length-map, get_or-append}
use Rattle.std.proofs.Math.Seq.{length-take-le, take-append-add, drop-append-add, get_or-take}
use borrow.Author.Tests.{lt-ltb, le-ltb, ltb-true, ltb-false, eq-eqb, ne_eqb, eqb-true, eqb-false}
use Rattle.device_definition.specs.Coinwise.{answers_by, differs_at, index_count, next_fold, settled}
use Rattle.definition.specs.Deciding.{Decision, Function, Place, answers, decide_final, decide_rest, differences, next_function, places_of, treated}
use Rattle.definition.specs.Domain.{fold_at, shift_point}
use Rattle.definition.specs.Field.{Field}
use Rattle.definition.specs.Lists.{first_true, range}
use Rattle.definition.specs.Polynomial.{Sample, clash, distinct, evaluate, pair}
use Rattle.definition.specs.Sheet.{Level}
use Rattle.definition.specs.Transcript.{Rest, Round, final, round}
use Rattle.definition.specs.Verdict.{accepted, refuse_at, refused}
use Rattle.list_laws.specs.First.{FirstTrue, first_true_lem}
use Rattle.list_laws.specs.Lists.{get_d_map}
use Rattle.coinwise.specs.CoinPlaces.{final_places, round_places}
use Rattle.coinwise.specs.Folds.{Coined, Settles, all_folds, places_to}

-- at least, and not equal
above : (m t : ℕ) → t ≤ m → (m ≡ t → ⊥) → t < m
above m t h n = go (ltb t m) refl
  where
    go : (b : Bool) → ltb t m ≡ b → t < m
    go true e = ltb-true t m e
    go false e = let z = ltb-false t m e in absurd (n (omega arith))

module _ {A : Type 0} (F : Field A) (ω : A) where
  open F use {𝟘, equal}

  pair_maps : (g h : ℕ → A) (js : List ℕ) (more : List A) → pair (map g js) (map h js ++ more) ≡ map (λ j. record { point = g j; value = h j }) js
  unfolding pair zip_with
  pair_maps g h [] more = refl
  pair_maps g h (j ∷ js) more = ap {B = List (Sample A)} (λ t. record { point = g j; value = h j } ∷ t) (pair_maps g h js more)

  pub answers_by_lem : (b : Level) (f : ℕ → A) (r : A) (ρ : Round A) (more : List A) →
      answers_by F ω b (map (fold_at F ω b f r) ρ.coins.shifts ++ more) ρ ≡ answers F ω b f r ρ
  unfolding answers_by answers
  answers_by_lem b f r ρ more =
      ap (λ (t : List (Sample A)). pair ρ.coins.outs ρ.replies ++ t) (pair_maps (shift_point F ω b) (fold_at F ω b f r) ρ.coins.shifts more)

  module _ (b : Level) (f : ℕ → A) (r : A) (ρ : Round A) (rest : Rest A) where
    -- the folds of the round, those after them, and the number of the first
    abbrev xs : List A
    xs = map (fold_at F ω b f r) ρ.coins.shifts

    abbrev ys : List A
    ys = all_folds F ω ρ.coins.level (next_function F ω (distinct F (answers F ω b f r ρ)) ρ).value ρ.coins.fold rest

    abbrev t : ℕ
    t = length ρ.coins.shifts

    xs_length : length xs ≡ t
    xs_length = length-map ρ.coins.shifts (fold_at F ω b f r)

    take_more : (n : ℕ) → t ≤ n → take n (xs ++ ys) ≡ xs ++ take (n - t) ys
    take_more n h =
        let e : n ≡ length xs + (n - t) = omega (arith, xs_length) in
        ap (λ (m : ℕ). take m (xs ++ ys)) e ∙ take-append-add xs ys (n - t)

    drop_more : (m : ℕ) → drop t (xs ++ take m ys) ≡ take m ys
    drop_more m =
        let e : t ≡ length xs + 0 = omega (arith, xs_length) in
        ap (λ (k : ℕ). drop k (xs ++ take m ys)) e ∙ drop-append-add xs (take m ys) 0

    drop_take : (n : ℕ) → t ≤ n → drop t (take n (xs ++ ys)) ≡ take (n - t) ys
    drop_take n h = ap (drop t) (take_more n h) ∙ drop_more (n - t)

    all_length : length (xs ++ ys) ≡ t + length ys
    all_length = length-append xs ys ∙ ap (λ (n : ℕ). n + length ys) xs_length

    taken : (n : ℕ) → n ≤ length (xs ++ ys) → length (take n (xs ++ ys)) ≡ n
    taken n h = length-take-le n (xs ++ ys) h

    -- G of the round, from the folds that begin with the round's
    by_taken : (n : ℕ) → t ≤ n → answers_by F ω b (take n (xs ++ ys)) ρ ≡ answers F ω b f r ρ
    by_taken n h = ap (λ (v : List A). answers_by F ω b v ρ) (take_more n h) ∙ answers_by_lem b f r ρ (take (n - t) ys)

    fold_here : (n : ℕ) → n < t → get_or (xs ++ ys) n 𝟘 ≡ fold_at F ω b f r (get_or ρ.coins.shifts n 0)
    fold_here n h = get_or-append xs ys 𝟘 n (omega (arith, xs_length)) ∙ get_d_map (fold_at F ω b f r) ρ.coins.shifts 0 𝟘 n h

    fold_later : (n : ℕ) → t ≤ n → get_or (xs ++ ys) n 𝟘 ≡ get_or ys (n - t) 𝟘
    fold_later n h =
        let e : n ≡ length xs + (n - t) = omega (arith, xs_length) in
        ap (λ (m : ℕ). get_or (xs ++ ys) m 𝟘) e ∙ get_or-append-add xs ys (n - t) 𝟘

  -- there are as many as coins
  pub folds_length : (rest : Rest A) (b : Level) (f : ℕ → A) (r : A) → length (all_folds F ω b f r rest) ≡ index_count rest
  unfolding all_folds index_count
  folds_length (final cs js) b f r = length-map js (fold_at F ω b f r)
  folds_length (round ρ rest) b f r =
      length-append (map (fold_at F ω b f r) ρ.coins.shifts) _
      ∙ (λ i. length-map ρ.coins.shifts (fold_at F ω b f r) i + folds_length rest ρ.coins.level (next_function F ω (distinct F (answers F ω b f r ρ)) ρ).value ρ.coins.fold i)

  -- ---- a round

  module _ (b : Level) (f : ℕ → A) (r : A) (ρ : Round A) (rest : Rest A) where
    abbrev T : ℕ
    T = length ρ.coins.shifts

    abbrev all : List A
    all = xs b f r ρ rest ++ ys b f r ρ rest

    settled_below : (m : ℕ) → m ≤ length all → m < T → settled F ω b (take m all) (round ρ rest) ≡ none
    unfolding settled
    settled_below m h l = rw (taken b f r ρ rest m h, lt-ltb m T l)

    settled_clash : (m : ℕ) → m ≤ length all → T ≤ m → clash F (answers F ω b f r ρ) ≡ true → settled F ω b (take m all) (round ρ rest) ≡ some (refused 8 ρ.coins.level.number)
    unfolding settled
    settled_clash m h l e = rw (taken b f r ρ rest m h, le-ltb m T l, by_taken b f r ρ rest m l, e)

    settled_past : (m : ℕ) → m ≤ length all → T ≤ m → clash F (answers F ω b f r ρ) ≡ false →
        settled F ω b (take m all) (round ρ rest) ≡ settled F ω ρ.coins.level (take (m - T) (ys b f r ρ rest)) rest
    unfolding settled
    settled_past m h l e = rw (taken b f r ρ rest m h, le-ltb m T l, by_taken b f r ρ rest m l, e, drop_take b f r ρ rest m l)

    next_here : (m : ℕ) → m ≤ length all → m < T → next_fold F ω b f r (take m all) (round ρ rest) ≡ get_or all m 𝟘
    unfolding next_fold
    next_here m h l = rw (taken b f r ρ rest m h, lt-ltb m T l) (sym (fold_here b f r ρ rest m l))

    next_past : (m : ℕ) → m ≤ length all → T ≤ m → clash F (answers F ω b f r ρ) ≡ false →
        next_fold F ω ρ.coins.level (next_function F ω (distinct F (answers F ω b f r ρ)) ρ).value ρ.coins.fold (take (m - T) (ys b f r ρ rest)) rest ≡ get_or (ys b f r ρ rest) (m - T) 𝟘 →
        next_fold F ω b f r (take m all) (round ρ rest) ≡ get_or all m 𝟘
    unfolding next_fold
    next_past m h l e k =
        rw (taken b f r ρ rest m h, le-ltb m T l, by_taken b f r ρ rest m l, e, drop_take b f r ρ rest m l) (k ∙ sym (fold_later b f r ρ rest m l))

  -- before any coin nothing is settled
  settled_first : (rest : Rest A) (b : Level) → Coined rest → settled F ω b [] rest ≡ none
  unfolding settled
  settled_first (final cs js) b h = refl
  settled_first (round ρ rest) b h = rw (lt-ltb 0 (length ρ.coins.shifts) h.0)

  -- ---- the final coins

  module _ (b : Level) (f : ℕ → A) (r : A) (cs : List A) (js : List ℕ) where
    abbrev g : ℕ → A
    g = fold_at F ω b f r

    abbrev ds : List Bool
    ds = differences F ω b f r cs js

    ds_at : (q : ℕ) → q < length js → get_or ds q false ≡ not (equal (evaluate F cs (shift_point F ω b (get_or js q 0))) (g (get_or js q 0)))
    unfolding differences
    ds_at q h = get_d_map (λ j. not (equal (evaluate F cs (shift_point F ω b j)) (fold_at F ω b f r j))) js 0 false q h

    ds_length : length ds ≡ length js
    unfolding differences
    ds_length = length-map js _

    settled_final : (m : ℕ) → 0 < m → m ≤ length js →
        settled F ω b (take m (map g js)) (final cs js) ≡ cond (get_or ds (m - 1) false) (some (refused 9 (m - 1))) (cond (eqb m (length js)) (some accepted) none)
    unfolding settled differs_at
    settled_final m h l =
        let n : length (take m (map g js)) ≡ m = length-take-le m (map g js) (omega (arith, length-map js g)) in
        let some-fold : eqb m 0 ≡ false = ne_eqb m 0 (λ z. omega arith) in
        let v : get_or (take m (map g js)) (m - 1) 𝟘 ≡ g (get_or js (m - 1) 0) = get_or-take m (map g js) (m - 1) 𝟘 (omega arith) ∙ get_d_map g js 0 𝟘 (m - 1) (omega arith) in
        rw (n, some-fold, v, ds_at (m - 1) (omega arith))

  next_final : (b : Level) (f : ℕ → A) (r : A) (cs : List A) (js : List ℕ) (m : ℕ) → m < length js →
      next_fold F ω b f r (take m (map (fold_at F ω b f r) js)) (final cs js) ≡ get_or (map (fold_at F ω b f r) js) m 𝟘
  unfolding next_fold
  next_final b f r cs js m h =
      let e = fold_at F ω b f r in
      let l : length (take m (map e js)) ≡ m = length-take-le m (map e js) (omega (arith, length-map js e)) in
      ap (λ (k : ℕ). e (get_or js k 0)) l ∙ sym (get_d_map e js 0 𝟘 m h)

  -- THE LAST COIN TREATED settles what deciding says, and deciding uses the places of the coins up to it.
  pub settles : (rest : Rest A) (b : Level) (f : Function A) (r : A) (used : List Place) → Coined rest → Settles F ω b f r used rest (decide_rest F ω b f r used rest)
  unfolding all_folds decide_rest decide_final refuse_at treated next_function places_to flat_map range
  settles (final cs js) b f r used h = go (first_true 0 (ds b f.value r cs js)) (first_true_lem 0 (ds b f.value r cs js))
    where
      n : length (ds b f.value r cs js) ≡ length js
      n = ds_length b f.value r cs js

      go : (o : Option ℕ) → FirstTrue 0 (ds b f.value r cs js) o →
          Settles F ω b f r used (final cs js) (record { outcome = refuse_at 9 o; used = used ++ places_of b f.places (treated js o) })
      go none k = record {
        coins = length js;
        some_coin = h;
        due = omega (arith, length-map js (g b f.value r cs js));
        next = λ m l. next_final b f.value r cs js m l;
        waits = λ m p l. settled_final b f.value r cs js m p (omega arith) ∙ rw (k (m - 1) (omega (arith, n)), ne_eqb m (length js) (λ z. omega arith));
        ends = settled_final b f.value r cs js (length js) h (omega arith) ∙ rw (k (length js - 1) (omega (arith, n)), eq-eqb (length js) (length js) refl);
        uses = ap (λ (p : List Place). used ++ p) (ap (places_of b f.places) (sym (take_all (length js) js (omega arith))) ∙ final_places b f.places cs js (length js) (omega arith));
      }
      go (some q) k =
          let same : q ≡ k.0 = omega (arith, k.1) in
          let back : suc q - 1 ≡ k.0 = omega (arith, same) in
          let same' : suc q - 1 ≡ q = omega arith in
          record {
            coins = suc q;
            some_coin = omega arith;
            due = omega (arith, same, k.2, n, length-map js (g b f.value r cs js));
            next = λ m l. next_final b f.value r cs js m (omega (arith, same, k.2, n));
            waits = λ m p l. settled_final b f.value r cs js m p (omega (arith, same, k.2, n))
                ∙ rw (k.4 (m - 1) (omega (arith, same)), ne_eqb m (length js) (λ z. omega (arith, same, k.2, n)));
            ends = settled_final b f.value r cs js (suc q) (omega arith) (omega (arith, same, k.2, n))
                ∙ (λ x. cond (get_or (ds b f.value r cs js) (back x) false) (some (refused 9 (same' x))) (cond (eqb (suc q) (length js)) (some accepted) none)) ∙ rw k.3;
            uses = ap (λ (p : List Place). used ++ p) (final_places b f.places cs js (suc q) (omega (arith, same, k.2, n)));
          }
  settles (round ρ rest) b f r used h =
      go (clash F (answers F ω b f.value r ρ)) refl (settles rest ρ.coins.level (next_function F ω (distinct F (answers F ω b f.value r ρ)) ρ) ρ.coins.fold (used ++ places_of b f.places ρ.coins.shifts) h.1)
    where
      now : List Place
      now = used ++ places_of b f.places ρ.coins.shifts

      clashed : Decision
      clashed = record { outcome = refused 8 ρ.coins.level.number; used = used ++ places_of b f.places ρ.coins.shifts }

      next : Decision
      next =
          decide_rest F ω ρ.coins.level (next_function F ω (distinct F (answers F ω b f.value r ρ)) ρ) ρ.coins.fold (used ++ places_of b f.places ρ.coins.shifts) rest

      go : (c : Bool) → clash F (answers F ω b f.value r ρ) ≡ c →
          Settles F ω ρ.coins.level (next_function F ω (distinct F (answers F ω b f.value r ρ)) ρ) ρ.coins.fold now rest next →
          Settles F ω b f r used (round ρ rest) (cond c clashed next)
      go true e k = record {
        coins = T b f.value r ρ rest;
        some_coin = h.0;
        due = omega (arith, all_length b f.value r ρ rest);
        next = λ m l. next_here b f.value r ρ rest m (omega (arith, all_length b f.value r ρ rest)) l;
        waits = λ m p l. settled_below b f.value r ρ rest m (omega (arith, all_length b f.value r ρ rest)) l;
        ends = settled_clash b f.value r ρ rest (T b f.value r ρ rest) (omega (arith, all_length b f.value r ρ rest)) (omega arith) e;
        uses = ap (λ (p : List Place). used ++ p) (sym (append-nil _) ∙ sym (round_places b f.places ρ rest 0)
            ∙ ap (λ (n : ℕ). places_to b f.places n (round ρ rest)) (add-zero (T b f.value r ρ rest)));
      }
      go false e k = record {
        coins = T b f.value r ρ rest + k.coins;
        some_coin = omega (arith, k.some_coin);
        due = omega (arith, all_length b f.value r ρ rest, k.due);
        next = λ m l. each m l (ltb m (T b f.value r ρ rest)) refl;
        waits = λ m p l. before m p l (ltb m (T b f.value r ρ rest)) refl (eqb m (T b f.value r ρ rest)) refl;
        ends = settled_past b f.value r ρ rest (T b f.value r ρ rest + k.coins) (omega (arith, all_length b f.value r ρ rest, k.due)) (omega arith) e
            ∙ ap (λ (n : ℕ). settled F ω ρ.coins.level (take n (ys b f.value r ρ rest)) rest) back ∙ k.ends;
        uses = k.uses ∙ append_assoc used (places_of b f.places ρ.coins.shifts) _ ∙ ap (λ (p : List Place). used ++ p) (sym (round_places b f.places ρ rest k.coins));
      }
        where
          back : T b f.value r ρ rest + k.coins - T b f.value r ρ rest ≡ k.coins
          back = omega arith

          before : (m : ℕ) → 0 < m → m < T b f.value r ρ rest + k.coins → (x : Bool) → ltb m (T b f.value r ρ rest) ≡ x → (y : Bool) → eqb m (T b f.value r ρ rest) ≡ y →
              settled F ω b (take m (all b f.value r ρ rest)) (round ρ rest) ≡ none
          before m p l true ex y ey =
              settled_below b f.value r ρ rest m (omega (arith, all_length b f.value r ρ rest, k.due)) (ltb-true m (T b f.value r ρ rest) ex)
          before m p l false ex true ey =
              let q = eqb-true m (T b f.value r ρ rest) ey in
              let z : m - T b f.value r ρ rest ≡ 0 = omega (arith, q) in
              settled_past b f.value r ρ rest m (omega (arith, all_length b f.value r ρ rest, k.due)) (omega (arith, q)) e
              ∙ ap (λ (n : ℕ). settled F ω ρ.coins.level (take n (ys b f.value r ρ rest)) rest) z ∙ settled_first rest ρ.coins.level h.1
          before m p l false ex false ey =
              let q = ltb-false m (T b f.value r ρ rest) ex in
              let n = eqb-false m (T b f.value r ρ rest) ey in
              let d : T b f.value r ρ rest < m = above m (T b f.value r ρ rest) q n in
              settled_past b f.value r ρ rest m (omega (arith, all_length b f.value r ρ rest, k.due)) q e
              ∙ k.waits (m - T b f.value r ρ rest) (omega arith) (omega arith)

          each : (m : ℕ) → m < T b f.value r ρ rest + k.coins → (x : Bool) → ltb m (T b f.value r ρ rest) ≡ x →
              next_fold F ω b f.value r (take m (all b f.value r ρ rest)) (round ρ rest) ≡ get_or (all b f.value r ρ rest) m 𝟘
          each m l true ex = next_here b f.value r ρ rest m (omega (arith, all_length b f.value r ρ rest, k.due)) (ltb-true m (T b f.value r ρ rest) ex)
          each m l false ex =
              let q = ltb-false m (T b f.value r ρ rest) ex in
              next_past b f.value r ρ rest m (omega (arith, all_length b f.value r ρ rest, k.due)) q e (k.next (m - T b f.value r ρ rest) (omega (arith, q)))
