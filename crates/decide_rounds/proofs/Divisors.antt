-- After refusal 7 nothing is divided by 0: in each round the points of G are different, and none is a point of the round's domain.
use Prim.Native.Nat.{ℕ, zero, suc, ◌+◌, ◌*◌, ◌/◌, ◌^◌, ◌≤◌, ◌<◌}
use native.Mathlib.Nat.{pow-suc}
use native.Mathlib.Numerals.{add-one}
use native.Mathlib.Omega.{arith}
use mathlib.Core.Path.{◌≡◌, refl, sym, ap, ◌∙◌, subst}
use mathlib.Core.Bool.{Bool, true, false, cond}
use mathlib.Core.List.{List, ◌∷◌, ◌++◌, map}
use mathlib.Core.Option.{Option, none, some}
use lib.ListN.{length, get_or, take, drop, length-drop, length-map, length-take}
use lib.Seq.{drop-cons, drop-drop, length-take-le}
use Rattle.definition.specs.Deciding.{answers}
use Rattle.definition.specs.Domain.{in_domain, point, shift_point}
use Rattle.definition.specs.Field.{Element, Field, Spelling, elements_in, field_in, number_in, power, word_count}
use Rattle.definition.specs.Layout.{coin, limit, out}
use Rattle.definition.specs.Polynomial.{Sample, distinct, pair, points}
use Rattle.definition.specs.Sheet.{Level, Sheet, root_of_unity}
use Rattle.algebra.specs.Different.{Apart, Differ}
use Rattle.algebra.specs.Division.{vanishing_nonzero}
use Rattle.algebra.specs.Evaluation.{reduce_evaluate}
use Rattle.algebra.specs.FieldIn.{read_below, reduced_in}
use Rattle.algebra.specs.Laws.{FieldLaws}
use Rattle.algebra.specs.RootsOfUnity.{minus_one, odd_even_differ, power_mul}
use Rattle.list_laws.specs.All.{All, all_append, all_map, all_map₂, all_of_map, everywhere}
use Rattle.completeness.proofs.Divisors as completeness
use Rattle.completeness.proofs.AdmissibleCoins.{outside_differs}
use Rattle.layouts.specs.EachWord.{InRange, each_outs, in_range}
use Rattle.layouts.specs.Levels.{element_at, rounds_of, sheet_field, sheet_root, words_for}
use Rattle.layouts.specs.Spellings.{count_add, count_zero, read_drop}
use Rattle.spelling.specs.Words.{elements_drop, elements_many, elements_take}
use Rattle.definition.specs.Transcript.{Round}
use Rattle.domain.specs.Powers.{PowersOver}
use Rattle.domain.specs.OutCoins.{first_inside, or_else}
use Rattle.polynomial.specs.Pairs.{points_pair}
use Rattle.samples.specs.SampleLaws.{some_distinct}
use Rattle.fractions.specs.declared.Oracle.{Oracle}
use Rattle.folds.specs.PointsIn.{point_in, point_in_lem}
use Rattle.fractions.specs.Values.{ClearOver, point_room}
use Rattle.level_words.specs.declared.State.{State}
use Rattle.decide_rounds.proofs.Inside.{round_front, round_outs, words_there}
use Rattle.decide_rounds.proofs.Outs.{outs_next}
use Rattle.level_words.specs.State.{current_fold, current_level, next_oracle, next_outs, next_round, next_shifts, next_size, next_state, outs_at}
use Rattle.round_words.specs.Handed.{NextCorrecting, NextSamples, sheet_points}
use Rattle.decide_rounds.specs.Kinds.{outs_from}
use Rattle.decide_rounds.specs.Invariant.{Invariant, Placed, Represented}

-- ---- test 7 found nothing

-- the first of two places is none, and so is the second
or_else_none : (a b : Option ℕ) → or_else a b ≡ none → (a ≡ none) × (b ≡ none)
or_else_none none b e = (refl, e)
or_else_none (some x) b e = let z : ◌≡◌ {A = ℕ} 0 1 = cc in absurd (omega arith)

-- a run of elements: the first, and the others
run_cons : (σ : Spelling) (w : List ℕ) (at n : ℕ) → at + word_count σ (suc n) ≤ length w →
    elements_in σ (take (word_count σ (suc n)) (drop at w)) ≡ element_at σ w at ∷ elements_in σ (take (word_count σ n) (drop (at + word_count σ 1) w))
run_cons σ w at n l =
    let v = drop at w in
    let xs = elements_in σ v in
    let z : at + word_count σ 0 ≡ at = omega (arith, count_zero σ) in
    let long : length (elements_in σ (take (word_count σ (suc n)) v)) ≡ suc n = elements_many σ (suc n) (take (word_count σ (suc n)) v) (length-take-le (word_count σ (suc n)) v (omega (arith, length-drop at w))) in
    let most : suc n ≤ length xs = omega (arith, long, ap length (elements_take σ (suc n) v), length-take (suc n) xs) in
    elements_take σ (suc n) v
    ∙ ap (take (suc n)) (drop-cons xs 0 (number_in σ 0) (omega arith))
    ∙ (λ i. (read_drop σ w at 0 ∙ ap (element_at σ w) z) i ∷ take n (sym (elements_drop σ 1 v) i))
    ∙ ap {B = List (Element σ)} (λ ys. element_at σ w at ∷ ys) (sym (elements_take σ n (drop (word_count σ 1) v)) ∙ ap (λ (u : List ℕ). elements_in σ (take (word_count σ n) u)) (drop-drop (word_count σ 1) at w))

-- no element of a run lies in the domain
module _ (σ : Spelling) (p ω : ℕ) (l : Level) (w : List ℕ) where
  abbrev Off : Element σ → Type 0
  Off x = in_domain (field_in σ p) (number_in σ ω) l x ≡ false

  none_inside : (at count : ℕ) → at + word_count σ count ≤ length w → first_inside σ p ω l w at count ≡ none →
      All (λ x. in_domain (field_in σ p) (number_in σ ω) l x ≡ false) (elements_in σ (take (word_count σ count) (drop at w)))
  unfolding first_inside
  none_inside at zero h e = subst (All Off) (sym (elements_take σ 0 (drop at w))) tt
  none_inside at (suc count) h e =
      let s : 1 + count ≡ suc count = omega arith in
      let room : at + word_count σ 1 + word_count σ count ≤ length w = omega (arith, count_add σ 1 count, ap (word_count σ) s) in
      subst (All Off) (sym (run_cons σ w at count h)) (go (in_domain (field_in σ p) (number_in σ ω) l (element_at σ w at)) refl e (none_inside (at + word_count σ 1) count room))
    where
      go : (b : Bool) → in_domain (field_in σ p) (number_in σ ω) l (element_at σ w at) ≡ b → cond b (some at) (first_inside σ p ω l w (at + word_count σ 1) count) ≡ none →
          (first_inside σ p ω l w (at + word_count σ 1) count ≡ none → All Off (elements_in σ (take (word_count σ count) (drop (at + word_count σ 1) w)))) →
          (in_domain (field_in σ p) (number_in σ ω) l (element_at σ w at) ≡ false) × All Off (elements_in σ (take (word_count σ count) (drop (at + word_count σ 1) w)))
      go true q k r = let z : ◌≡◌ {A = ℕ} 0 1 = cc in absurd (omega arith)
      go false q k r = (q, r k)

-- ---- a round from a place

module _ (h : Sheet) (L : FieldLaws (sheet_field h)) (signs : minus_one (sheet_field h) ≡ (sheet_field h).𝟙 → ⊥) (w pw : List ℕ) (st : State) (ok : Placed h w st) (more : st.level < rounds_of h)
    (powers : PowersOver (sheet_field h) (sheet_root h) (sheet_points h pw)) (outside : outs_from h w st ≡ none) where
  abbrev A : Type 0
  A = Element h.spelling

  abbrev F : Field (Element h.spelling)
  F = sheet_field h

  abbrev ω : Element h.spelling
  ω = sheet_root h

  abbrev b : Level
  b = current_level h st

  abbrev l : Level
  l = current_level h (next_state h st)

  -- the out coins of the round
  abbrev outs : List (Element h.spelling)
  outs = elements_in h.spelling (next_outs h w st)

  both : (first_inside h.spelling h.prime (root_of_unity h) l w (outs_at h st) h.out_coins ≡ none) × (outs_from h w (next_state h st) ≡ none)
  both = or_else_none _ _ (sym (outs_next h w st (ok) more) ∙ outside)

  -- no out coin still to come lies in its domain
  pub outside_after : outs_from h w (next_state h st) ≡ none
  outside_after = both.1

  out_words : All (λ x. x < h.prime) (next_outs h w st)
  unfolding next_outs limit current_level next_state
  out_words =
      let n = words_for h (next_size st) in
      let c = words_for h h.out_coins in
      subst (λ (t : List ℕ). All (λ x. x < h.prime) (take c t)) (drop-drop n st.at w)
      (each_outs (λ x. x < h.prime) (InRange h) h.spelling h.out_coins l (λ x e. in_range h (out l) x e) (λ x e. in_range h coin x e) (take c (drop n (drop st.at w)))
      (round_outs h h.out_coins b l (drop st.at w) (round_front h w st (ok) more)))

  pub out_elements : All (λ x. L.reduce x ≡ x) outs
  out_elements = all_map outs (read_below h.spelling h.prime (next_outs h w st) out_words) (λ x below. reduced_in h.spelling h.prime L x below)

  outs_outside : All (λ x. in_domain F ω l x ≡ false) outs
  unfolding next_outs
  outs_outside = none_inside h.spelling h.prime (root_of_unity h) l w (outs_at h st) h.out_coins (omega (arith, words_there h w st (ok) more)) both.0

  -- a shift point is an even power of ω, a point of the next domain an odd one (000, Remark 5.3)
  shift_off : (m j : ℕ) → Differ F (point F ω l m) (shift_point F ω b j)
  unfolding point shift_point current_level next_state
  shift_off m j =
      let k = ok.sheet.folds st.level ok.level in
      let a = 1 + 2 ^ st.level * j in
      let q = a * 2 ^ k.log in
      let d = 2 ^ st.level * m in
      let two : 2 ^ (st.level + 1) ≡ 2 ^ st.level * 2 = ap (λ (n : ℕ). 2 ^ n) (add-one st.level) ∙ pow-suc 2 st.level in
      let odd : 1 + 2 ^ (st.level + 1) * m ≡ suc (d + d) = ap (λ (n : ℕ). 1 + n * m) two ∙ omega arith in
      let even : a * current_fold h st ≡ q + q = ap (λ (n : ℕ). a * n) (k.two ∙ pow-suc 2 k.log) ∙ omega arith in
      subst (λ (x : A). Differ F (power F ω (1 + 2 ^ (st.level + 1) * m)) x) (sym (power_mul F L ω a (current_fold h st) ∙ ap (power F ω) even))
      (subst (λ (n : ℕ). Differ F (power F ω n) (power F ω (q + q))) (sym odd)
      (odd_even_differ F L signs ω (length (sheet_points h pw) / 2) d q powers.half))

  -- no point of the next domain is an out coin or a shift point of the round
  coins_off : (m : ℕ) → m < l.size → All (λ a. Differ F (point F ω l m) a) (outs ++ map (shift_point F ω b) (next_shifts h w st))
  coins_off m within =
      all_append _ outs _ (all_map₂ outs out_elements outs_outside (λ x e o. outside_differs F L ω l x e o m within))
      (all_of_map _ (shift_point F ω b) (next_shifts h w st) (everywhere (next_shifts h w st) (λ j. shift_off m j)))

  -- samples at the out coins and the shift points of the round, of equal points the first, whatever their values
  module _ (G : List (Sample (Element h.spelling))) (apart : Apart (sheet_field h) (points (distinct (sheet_field h) G)))
      (off : (x : Element h.spelling) →
      All (λ a. Differ (sheet_field h) x a) (elements_in h.spelling (next_outs h w st) ++ map (shift_point (sheet_field h) (sheet_root h) (current_level h st)) (next_shifts h w st)) →
      All (λ a. Differ (sheet_field h) x a) (points (distinct (sheet_field h) G)))
      (px py : List (Element h.spelling)) (j : ℕ) (long : length py ≡ length px) (kept_is : pair (drop j px) (drop j py) ≡ distinct (sheet_field h) G) where
    points_are : points (distinct F G) ≡ drop j px
    points_are = ap (λ (g : List (Sample A)). points g) (sym kept_is) ∙ points_pair (drop j px) (drop j py) (omega (arith, length-drop j px, length-drop j py))

    -- interpolation: the points of the samples are different
    pub any_apart : Apart (sheet_field h) (drop j px)
    any_apart = subst (Apart F) points_are apart

    -- quotient: no point of the next domain is one of them
    points_off : (m : ℕ) → m < l.size → All (λ a. Differ F (point F ω l m) a) (points (pair (drop j px) (drop j py)))
    points_off m within = subst (λ (g : List (Sample A)). All (λ a. Differ F (point F ω l m) a) (points g)) (sym kept_is) (off (point F ω l m) (coins_off m within))

    pub any_clear : (scale words : ℕ) (pa pv : List ℕ) → Invariant h w (length pw) (length pa) (length pv) (next_state h st) (next_oracle h st scale words) →
        NextCorrecting h w st (pair (drop j px) (drop j py)) words pa pv →
        ClearOver (sheet_field h) L (sheet_points h pw) (next_state h st).size (elements_in h.spelling pv) (next_oracle h st scale words)
    unfolding point_in current_level next_oracle
    any_clear scale words pa pv next given = record {
      ω = ω;
      powers = powers;
      nonzero = λ m within some z.
          let x = get_or (sheet_points h pw) (2 * scale * m) F.𝟘 in
          let at : x ≡ point F ω l m = point_in_lem F powers l next.scale m
          (subst (λ (n : ℕ). 2 * scale * m < n) (sym (length-map pw (number_in h.spelling))) (point_room next.inside.fits m within)) in
          vanishing_nonzero F L (points (pair (drop j px) (drop j py))) x
          (subst (λ (y : A). All (λ a. Differ F y a) (points (pair (drop j px) (drop j py)))) (sym at) (points_off m within))
          (sym (given.vanish x) ∙ sym (reduce_evaluate F L _ x) ∙ z);
    }

-- the samples of deciding
module _ (h : Sheet) (L : FieldLaws (sheet_field h)) (signs : minus_one (sheet_field h) ≡ (sheet_field h).𝟙 → ⊥) (w pw ac vg : List ℕ) (st : State) (oracle : Oracle)
    (ok : Invariant h w (length pw) (length ac) (length vg) st oracle) (more : st.level < rounds_of h) (s : Represented h w pw ac vg st oracle) where
  abbrev ρ : Round (Element h.spelling)
  ρ = next_round h w st

  -- no out coin still to come lies in its domain
  pub outside_next : outs_from h w (next_state h st) ≡ none
  outside_next = outside_after h L signs w pw st ok.place more s.represents.powers s.outside

  module _ (r : Element h.spelling) (px py : List (Element h.spelling)) (j : ℕ) (long : length py ≡ length px)
      (a : NextSamples h w pw ac vg st r oracle (some (pair (drop j px) (drop j py)))) where
    abbrev G : List (Sample (Element h.spelling))
    G = answers (sheet_field h) (sheet_root h) (current_level h st) s.f r (next_round h w st)

    kept_is : pair (drop j px) (drop j py) ≡ distinct (sheet_field h) G
    unfolding next_round
    kept_is = (some_distinct (sheet_field h) G (pair (drop j px) (drop j py)) (a (sheet_root h) (current_level h st) s.f ρ refl refl refl s.represents)).1

    apart : Apart (sheet_field h) (points (distinct (sheet_field h) G))
    unfolding next_round
    apart = completeness.samples_apart (sheet_field h) L (sheet_root h) (current_level h st) s.f r ρ (out_elements h L signs w pw st ok.place more s.represents.powers s.outside)

    off : (x : Element h.spelling) →
        All (λ a. Differ (sheet_field h) x a) (elements_in h.spelling (next_outs h w st) ++ map (shift_point (sheet_field h) (sheet_root h) (current_level h st)) (next_shifts h w st)) →
        All (λ a. Differ (sheet_field h) x a) (points (distinct (sheet_field h) G))
    unfolding next_round
    off x d = completeness.samples_off (sheet_field h) L (sheet_root h) (current_level h st) s.f r ρ x d

    pub samples_apart : Apart (sheet_field h) (drop j px)
    samples_apart = any_apart h L signs w pw st ok.place more s.represents.powers s.outside G apart off px py j long kept_is

    pub clear_next : (words : ℕ) (pa pv : List ℕ) → Invariant h w (length pw) (length pa) (length pv) (next_state h st) (next_oracle h st oracle.scale words) →
        NextCorrecting h w st (pair (drop j px) (drop j py)) words pa pv →
        ClearOver (sheet_field h) L (sheet_points h pw) (next_state h st).size (elements_in h.spelling pv) (next_oracle h st oracle.scale words)
    clear_next words pa pv next given =
        any_clear h L signs w pw st ok.place more s.represents.powers s.outside G apart off px py j long kept_is oracle.scale words pa pv next given
