-- The words of the next round, or of the final comparison, are there and in range; and what is known at a place is known at the next.
use Prim.Native.Nat.{ℕ, ◌+◌, ◌*◌, ◌/◌, ◌^◌, ◌≤◌, ◌<◌}
use native.Mathlib.Nat.{div-mul-le_self, mul-le-mul_left, pow-suc}
use native.Mathlib.Numerals.{add-one}
use native.Mathlib.Omega.{arith}
use mathlib.Core.Path.{◌≡◌, refl, ap, ◌∙◌, subst}
use mathlib.Core.List.{List, [], ◌∷◌, ◌++◌}
use lib.ListN.{length, take, drop, replicate, length-append, length-drop, length-replicate}
use lib.Pow.{pow_mono}
use lib.Seq.{drop-drop}
use Rattle.list_laws.specs.All.{all_map, at_place}
use Rattle.layouts.specs.EachWord.{Each, Front, InRange, front_at, front_run, in_range}
use Rattle.layouts.proofs.LayoutFacts.{outs_length, round_length}
use Rattle.layouts.specs.KindsAfter.{later_layout}
use Rattle.layouts.specs.LawfulSheets.{Paired}
use Rattle.layouts.specs.Levels.{rounds_of, words_for}
use Rattle.definition.specs.Field.{Spelling, word_count}
use Rattle.definition.specs.Layout.{Kind, coin, index, later_count, limit, message, out_layout, rest_layout, round_layout}
use Rattle.definition.specs.Sheet.{Edition, Level, Sheet, final_count, shift_count}
use Rattle.lists.specs.Correcting.{Columned}
use Rattle.fractions.specs.declared.Oracle.{Oracle}
use Rattle.fractions.specs.Values.{Below, Fits}
use Rattle.level_words.specs.declared.State.{State}
use Rattle.level_words.specs.Words.{levels_end, levels_next, third_drop}
use Rattle.level_words.specs.State.{current_fold, current_level, current_repetitions, finals_of, next_degree, next_fold, next_oracle, next_shifts, next_size, next_state, shifts_at}
use Rattle.level_words.specs.Inside.{FinalInside, Numbers, RoundInside, Written}
use Rattle.decide_rounds.specs.Kinds.{kinds_of}
use Rattle.decide_rounds.specs.Invariant.{Folding, Invariant, Placed}
use Rattle.decide_rounds.specs.Sizes.{divided, even_size, halved_size}

-- there are as many words as kinds at their front
front_long : (h : Sheet) (ks : List Kind) (w : List ℕ) → Front (InRange h) ks w → length ks ≤ length w
front_long h [] w f = omega arith
front_long h (k ∷ ks) [] f = absurd f
front_long h (k ∷ ks) (x ∷ w) f = omega (arith, front_long h ks w f.1)

-- the first of them
front_first : (h : Sheet) (ks ks' : List Kind) (w : List ℕ) → Front (InRange h) (ks ++ ks') w → Front (InRange h) ks w
front_first h [] ks' w f = tt
front_first h (k ∷ ks) ks' [] f = absurd f
front_first h (k ∷ ks) ks' (x ∷ w) f = (f.0, front_first h ks ks' w f.1)

-- a run of n indices below c in a list
run_below : (h : Sheet) (n c : ℕ) (w : List ℕ) → Front (InRange h) (replicate n (index c)) w → Below c (take n w)
unfolding limit
run_below h n c w f = at_place (λ x. x < c) (take n w) 0 (all_map (take n w) (front_run (InRange h) n (index c) w f) (λ x r. in_range h (index c) x r))

-- the out coins of a round, behind the table; and its shift indices, behind the out coins, the replies and two coins
module _ (h : Sheet) (s : ℕ) (b l : Level) (w : List ℕ) (f : Front (InRange h) (round_layout h.spelling s b l) w) where
  abbrev σ : Spelling
  σ = h.spelling

  after_table : Front (InRange h) (out_layout h.spelling s l ++ (replicate (words_for h s) message ++ later_layout h.spelling b)) (drop (words_for h l.size) w)
  unfolding round_layout
  after_table =
      let n = word_count σ l.size in
      (front_at (InRange h) n (replicate n message) (out_layout σ s l ++ (replicate (word_count σ s) message ++ later_layout σ b)) w (length-replicate n message) f).1

  after_outs : Each (InRange h) (out_layout h.spelling s l) (take (words_for h s) (drop (words_for h l.size) w))
      × Front (InRange h) (replicate (words_for h s) message ++ later_layout h.spelling b) (drop (words_for h s) (drop (words_for h l.size) w))
  after_outs = front_at (InRange h) (word_count σ s) (out_layout σ s l) (replicate (word_count σ s) message ++ later_layout σ b) (drop (word_count σ l.size) w) (outs_length σ s l) after_table

  pub round_outs : Each (InRange h) (out_layout h.spelling s l) (take (words_for h s) (drop (words_for h l.size) w))
  round_outs = after_outs.0

  round_shifts : Front (InRange h) (replicate b.repetitions (index (shift_count b))) (drop (words_for h 2) (drop (words_for h s) (drop (words_for h s) (drop (words_for h l.size) w))))
  round_shifts =
      let m = word_count σ s in
      let c = word_count σ 2 in
      let v = drop m (drop (word_count σ l.size) w) in
      let q = replicate b.repetitions (index (shift_count b)) in
      (front_at (InRange h) c (replicate c coin) q (drop m v) (length-replicate c coin)
      (front_at (InRange h) m (replicate m message) (later_layout σ b) v (length-replicate m message) after_outs.1).1).1

-- there are at most 2,048 shift points, since k is 2 at least
shifts_most : (n k : ℕ) → n ≤ 4096 → 2 ≤ k → n / k ≤ 2048
shifts_most n k h two = omega (arith, mul-le-mul_left (n / k) two, div-mul-le_self n k)

module _ (h : Sheet) (w : List ℕ) (st : State) (ok : Placed h w st) where
  paired : Paired h
  paired = ok.sheet.law.paired

  folding : Folding (current_fold h st)
  folding = ok.sheet.folds st.level ok.level

  pub few_coins : current_repetitions h st ≤ 48
  few_coins = ok.sheet.law.times st.level ok.level

  pub scale_small : (scale : ℕ) → scale ≡ 2 ^ st.level → scale ≤ 32
  scale_small scale e = let l : st.level ≤ 5 = omega (arith, ok.level, ok.sheet.rounds) in omega (arith, e, pow_mono l)

  numbers : (ed : Edition) → Written ed h w → Numbers ed h w st
  numbers ed v = record {
    long = v.long;
    sheet = v.sheet;
    spelling = v.spelling;
    level = omega (arith, ok.level, ok.sheet.rounds);
    outs = v.outs;
    times = v.times st.level ok.level;
    fold = v.folds st.level ok.level;
    large = folding.large;
    small = folding.small;
    few = few_coins;
    shifts = shifts_most st.size (current_fold h st) ok.points folding.large;
  }

  module _ (more : st.level < rounds_of h) where
    whole : Front (InRange h) (round_layout h.spelling h.out_coins (current_level h st) (current_level h (next_state h st)) ++ kinds_of h (next_state h st)) (drop st.at w)
    unfolding rest_layout
    whole = subst (λ (ls : List Level). Front (InRange h) (rest_layout h.spelling h.out_coins (current_level h st) ls) (drop st.at w)) (levels_next h st paired more) ok.words

    -- the number of words of the round
    abbrev many : ℕ
    many = words_for h (next_size st) + (words_for h h.out_coins + (words_for h h.out_coins + (words_for h 2 + current_repetitions h st)))

    many_is : length (round_layout h.spelling h.out_coins (current_level h st) (current_level h (next_state h st))) ≡ many
    unfolding current_level next_state later_count
    many_is = round_length h.spelling h.out_coins (current_level h st) (current_level h (next_state h st))

    pub round_front : Front (InRange h) (round_layout h.spelling h.out_coins (current_level h st) (current_level h (next_state h st))) (drop st.at w)
    round_front = front_first h (round_layout h.spelling h.out_coins (current_level h st) (current_level h (next_state h st))) (kinds_of h (next_state h st)) (drop st.at w) whole

    pub words_there : shifts_at h st + current_repetitions h st ≤ length w
    words_there =
        let ks = round_layout h.spelling h.out_coins (current_level h st) (current_level h (next_state h st)) in
        omega (arith, ok.here, front_long h ks (drop st.at w) round_front, length-drop st.at w, many_is)

    rest_front : Front (InRange h) (kinds_of h (next_state h st)) (drop (next_state h st).at w)
    unfolding next_state
    rest_front =
        let e : st.at + many ≡ shifts_at h st + current_repetitions h st = omega arith in
        subst (λ (l : List ℕ). Front (InRange h) (kinds_of h (next_state h st)) l) (drop-drop many st.at w ∙ ap (λ (m : ℕ). drop m w) e)
        (front_at (InRange h) many (round_layout h.spelling h.out_coins (current_level h st) (current_level h (next_state h st))) (kinds_of h (next_state h st)) (drop st.at w) many_is whole).1

    pub indices_below : Below (st.size / current_fold h st) (next_shifts h w st)
    unfolding current_level next_state shift_count next_shifts
    indices_below =
        let s = words_for h h.out_coins in
        let n = words_for h (next_size st) in
        let c = words_for h 2 in
        let t = current_repetitions h st in
        subst (λ (js : List ℕ). Below (st.size / current_fold h st) js)
        (ap (take t) (ap (drop c) (third_drop h.spelling w st.at n s t) ∙ drop-drop c (st.at + n + s + s) w))
        (run_below h t (st.size / current_fold h st) (drop c (drop s (drop s (drop n (drop st.at w)))))
        (round_shifts h h.out_coins (current_level h st) (current_level h (next_state h st)) (drop st.at w) round_front))

    pub round_inside : (ed : Edition) → Written ed h w → RoundInside ed h w st
    round_inside ed v =
        let k = ok.sheet.folds (st.level + 1) (omega arith) in
        record {
          numbers = numbers ed v;
          level = omega (arith, ok.sheet.rounds);
          there = words_there;
          below = indices_below;
          next = v.folds (st.level + 1) (omega arith);
          next_large = k.large;
          next_small = k.small;
        }

module _ (h : Sheet) (w : List ℕ) (st : State) (ok : Placed h w st) (end : st.level ≡ rounds_of h) where
  last_whole : Front (InRange h) (replicate (words_for h (next_degree h st)) message ++ replicate (current_repetitions h st) (index (st.size / current_fold h st))) (drop st.at w)
  unfolding rest_layout current_level final_count shift_count
  last_whole =
      subst (λ (ls : List Level). Front (InRange h) (rest_layout h.spelling h.out_coins (current_level h st) ls) (drop st.at w)) (levels_end h st (paired h w st ok) end) ok.words

  pub final_there : st.at + words_for h (next_degree h st) + current_repetitions h st ≤ length w
  final_there =
      let ks = replicate (words_for h (next_degree h st)) message in
      let ks' = replicate (current_repetitions h st) (index (st.size / current_fold h st)) in
      omega (
        arith,
        ok.here,
        front_long h (ks ++ ks') (drop st.at w) last_whole,
        length-append ks ks',
        length-drop st.at w,
        length-replicate (words_for h (next_degree h st)) message,
        length-replicate (current_repetitions h st) (index (st.size / current_fold h st)),
      )

  pub finals_below : Below (st.size / current_fold h st) (finals_of h w st)
  unfolding finals_of
  finals_below =
      let d = words_for h (next_degree h st) in
      let t = current_repetitions h st in
      let c = st.size / current_fold h st in
      subst (λ (js : List ℕ). Below c js) (ap (take t) (drop-drop d st.at w))
      (run_below h t c (drop d (drop st.at w)) (front_at (InRange h) d (replicate d message) (replicate t (index c)) (drop st.at w) (length-replicate d message) last_whole).1)

  pub final_inside : (ed : Edition) → Written ed h w → FinalInside ed h w st
  final_inside ed v = record { numbers = numbers h w st ok ed v; there = final_there; below = finals_below }

-- the next level's points are in the table of points
next_fits : (points n k k' words : ℕ) (oracle : Oracle) → Folding k' → Fits points n oracle k → 2 * (n / 2) ≡ n → k' * (n / 2 / k') ≡ n / 2 → Columned k' words →
    Fits points (n / 2) (record { scale = 2 * oracle.scale; step = n / 2 / k'; words = words }) k'
next_fits points n k k' words oracle g f even whole few = record {
  log = g.log;
  two = g.two;
  few = g.small;
  spaced = omega (arith, f.spaced);
  roots = whole;
  room = go oracle.scale f.room;
  small = f.small;
  columns = few.1.1.0;
  whole = few.1.1.1;
  used = few.1.0;
}
  where
    go : (s : ℕ) → s * n ≡ points → 2 * s * (n / 2) ≡ points
    go s h = let e : s * (2 * (n / 2)) ≡ s * n = ap (λ (m : ℕ). s * m) even in omega arith

pub scale_next : (scale level : ℕ) → scale ≡ 2 ^ level → 2 * scale ≡ 2 ^ (level + 1)
scale_next scale level e = omega (arith, e, pow-suc 2 level, ap (λ (n : ℕ). 2 ^ n) (add-one level))

-- what is known at the next place
pub placed_next : (h : Sheet) (w : List ℕ) (st : State) → Placed h w st → st.level < rounds_of h → Placed h w (next_state h st)
unfolding next_state
placed_next h w st ok more = record {
  sheet = ok.sheet;
  level = omega arith;
  here = words_there h w st ok more;
  words = rest_front h w st ok more;
  points = omega (arith, ok.points);
}

pub invariant_next : (h : Sheet) (w : List ℕ) {points answers factors : ℕ} (st : State) (oracle : Oracle) → Invariant h w points answers factors st oracle →
    st.level < rounds_of h → (answers' factors' words : ℕ) → answers' ≡ words_for h 66 → factors' ≡ words_for h 132 → Columned (next_fold h st) words →
    Invariant h w points answers' factors' (next_state h st) (next_oracle h st oracle.scale words)
unfolding next_state next_oracle
invariant_next h w st oracle ok more answers' factors' words ha hf few =
    let x = ok.place.sheet in
    let size = halved_size h x st.level st.size ok.size in
    record {
      place = placed_next h w st ok.place more;
      size = size;
      scale = scale_next oracle.scale st.level ok.scale;
      inside = record {
        few = x.law.outs;
        table = omega (arith, words_there h w st ok.place more);
        fits = next_fits _ st.size (current_fold h st) (next_fold h st) words oracle (x.folds (st.level + 1) (omega arith)) ok.inside.fits
            (even_size h x st.level st.size ok.size ok.place.level) (divided h x (st.level + 1) (st.size / 2) size (omega arith)) few;
        in_answers = ha;
        in_factors = hf;
        step = refl;
      };
    }
