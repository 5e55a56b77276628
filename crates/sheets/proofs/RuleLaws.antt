-- The values that the rule of a sheet word permits, as the code finds them, over plain numbers and lists. Assumes nothing.
use Prim.Native.Nat.{ℕ, zero, suc, ◌+◌, ◌-◌, ◌*◌, ◌%◌, ◌^◌, ◌≤◌, ◌<◌}
use native.Mathlib.Nat.{add-zero, mod-eq_of_lt, zero-add}
use native.Mathlib.Numerals.{add-one}
use native.Mathlib.Omega.{arith}
use mathlib.Core.Bool.{Bool, true, false, not, cond, true≢false}
use mathlib.Core.List.{List, [], ◌∷◌, ◌++◌, append-nil, map}
use mathlib.Core.Option.{none, some}
use mathlib.Core.Path.{◌≡◌, refl, sym, ap, ◌∙◌}
use lib.Dec.{eqb}
use lib.ListN.{length, get_or, take, drop, set, drop_of_length-le, length-append, length-set, get_or-append}
use lib.Pow.{pow-add, pow_mono}
use lib.Seq.{append_snoc, drop-cons, get_or-append-add, length-take-le, set_split, take-set-le, take-suc-set}
use borrow.Author.Tests.{eqb-true, eqb-false}
use Rattle.list_laws.specs.Lists.{get_d_map_range, get_d_range, range_length}
use Rattle.layouts.proofs.SheetByWord.{rule_front}
use Rattle.layouts.specs.PlainRules.{Kept}
use Rattle.definition.specs.Lists.{first_of, range}
use Rattle.definition.specs.Load.{candidates, keep, permits, permitted}
use Rattle.definition.specs.Sheet.{edition1, later_rules, sheet_rules, test_order}

-- ---- the candidates

pub small_candidate : (i : ℕ) → i < 49 → i ≡ get_or candidates i 0
unfolding candidates
small_candidate i h = sym (get_or-append (range 0 49) (map (λ a. 2 ^ a) (range 6 7)) 0 i (omega (arith, range_length 0 49)) ∙ get_d_range 0 49 i h ∙ zero-add i)

pub large_candidate : (i : ℕ) → 49 ≤ i → i < 56 → 64 * 2 ^ (i - 49) % 4294967296 ≡ get_or candidates i 0
unfolding candidates
large_candidate i h l =
    let ys = map (λ a. 2 ^ a) (range 6 7) in
    let e : i - 49 ≤ 6 = omega arith in
    let f : 49 + (i - 49) ≡ i = omega arith in
    mod-eq_of_lt (omega (arith, pow_mono e))
    ∙ sym (ap (λ (n : ℕ). get_or (range 0 49 ++ ys) n 0) (sym f) ∙ ap (λ (n : ℕ). get_or (range 0 49 ++ ys) (n + (i - 49)) 0) (sym (range_length 0 49))
    ∙ get_or-append-add (range 0 49) ys (i - 49) 0 ∙ get_d_map_range (λ a. 2 ^ a) 0 6 7 (i - 49) (omega arith) ∙ pow-add 2 6 (i - 49))

-- ---- the first rule that fails, of words in their order

-- a failure at j, where the rules before hold, is the first
first_false : (bs : List Bool) (from n j : ℕ) → j < length bs → j < n → ((i : ℕ) → i < j → get_or bs i false ≡ true) → get_or bs j false ≡ false →
    first_of (range from n) (map not bs) ≡ some (from + j)
unfolding first_of range
first_false [] from n j l m k e = absurd (omega arith)
first_false (b ∷ bs) from zero j l m k e = absurd (omega arith)
first_false (true ∷ bs) from (suc n) zero l m k e = absurd (true≢false e)
first_false (false ∷ bs) from (suc n) zero l m k e = ap some (sym (add-zero from))
first_false (false ∷ bs) from (suc n) (suc j) l m k e = absurd (true≢false (sym (k 0 (omega arith))))
first_false (true ∷ bs) from (suc n) (suc j) l m k e =
    let s : suc from + j ≡ from + suc j = omega arith in
    first_false bs (suc from) n j (omega arith) (omega arith) (λ i h. k (suc i) (omega arith)) e ∙ ap some s

-- the first failure is one
false_there : (bs : List Bool) (from n place : ℕ) → first_of (range from n) (map not bs) ≡ some place → (from ≤ place) × (get_or bs (place - from) false ≡ false)
unfolding first_of range
false_there bs from zero place e = let z : ◌≡◌ {A = ℕ} 0 1 = cc in absurd (omega arith)
false_there [] from (suc n) place e = let z : ◌≡◌ {A = ℕ} 0 1 = cc in absurd (omega arith)
false_there (false ∷ bs) from (suc n) place e =
    let s : from ≡ place = cc in
    let d : place - from ≡ 0 = omega arith in
    (omega arith, ap (λ (m : ℕ). get_or (false ∷ bs) m false) d)
false_there (true ∷ bs) from (suc n) place e =
    let r = false_there bs (suc from) n place e in
    let d : place - from ≡ suc (place - suc from) = omega (arith, r.0) in
    (omega (arith, r.0), ap (λ (m : ℕ). get_or (true ∷ bs) m false) d ∙ r.1)

-- ---- x in place j of 12 words, where the words before keep their rules

permits_rule : (v : List ℕ) (x : ℕ) → (length v ≡ 0 → ⊥) → permits v x ≡ get_or (sheet_rules edition1 (v ++ (x ∷ []))) (length v) false
unfolding permits
permits_rule [] x h = absurd (h refl)
permits_rule (a ∷ v) x h = refl

module _ (w : List ℕ) (j x : ℕ) (long : length w ≡ 12) (l : j < 12) (k : Kept (take j w)) where
  count : length (take j w) ≡ j
  count = length-take-le j w (omega arith)

  -- a rule up to word j does not look at the words behind
  rule_at : (i : ℕ) → i ≤ j → get_or (sheet_rules edition1 (set w j x)) i false ≡ get_or (sheet_rules edition1 (take j w ++ (x ∷ []))) i false
  rule_at i h =
      let u = take j w ++ (x ∷ []) in
      ap (λ (s : List ℕ). get_or (sheet_rules edition1 s) i false) (set_split w j x (omega arith) ∙ sym (append_snoc (take j w) x (drop (suc j) w)))
      ∙ rule_front u (drop (suc j) w) i (omega (arith, length-append (take j w) (x ∷ []), count))

  held_before : (i : ℕ) → i < j → get_or (sheet_rules edition1 (set w j x)) i false ≡ true
  held_before i h = rule_at i (omega arith) ∙ rule_front (take j w) (x ∷ []) i (omega (arith, count)) ∙ k i (omega (arith, count))

  rule_count : length (sheet_rules edition1 (set w j x)) ≡ 12
  unfolding sheet_rules later_rules range
  rule_count = refl

  by_rule : (j ≡ 0 → ⊥) → permits (take j w) x ≡ get_or (sheet_rules edition1 (set w j x)) j false
  by_rule h =
      permits_rule (take j w) x (λ e. h (sym count ∙ e))
      ∙ ap (λ (n : ℕ). get_or (sheet_rules edition1 (take j w ++ (x ∷ []))) n false) count ∙ sym (rule_at j (omega arith))

  -- The rule holds exactly unless word j is the first that is broken.
  holds_unless : (b : Bool) → get_or (sheet_rules edition1 (set w j x)) j false ≡ b → (first_of (test_order edition1) (map not (sheet_rules edition1 (set w j x))) ≡ some j → ⊥) → true ≡ b
  unfolding test_order
  holds_unless true e h = refl
  holds_unless false e h =
      let z : 0 + j ≡ j = omega arith in
      absurd (h (first_false (sheet_rules edition1 (set w j x)) 0 12 j (omega (arith, rule_count)) l held_before e ∙ ap some z))

  pub permitted_at : (j ≡ 0 → ⊥) → (place : ℕ) → some place ≡ first_of (test_order edition1) (map not (sheet_rules edition1 (set w j x))) → not (eqb place j) ≡ permits (take j w) x
  unfolding test_order
  permitted_at h place e = go (eqb place j) refl ∙ sym (by_rule h)
    where
      go : (b : Bool) → eqb place j ≡ b → not b ≡ get_or (sheet_rules edition1 (set w j x)) j false
      go true q =
          let s : place - 0 ≡ j = omega (arith, eqb-true place j q) in
          sym (ap (λ (n : ℕ). get_or (sheet_rules edition1 (set w j x)) n false) (sym s) ∙ (false_there (sheet_rules edition1 (set w j x)) 0 12 place (sym e)).1)
      go false q = holds_unless _ refl (λ f. eqb-false place j q (let r : some place ≡ some j = e ∙ f in cc))

  pub permitted_nowhere : (j ≡ 0 → ⊥) → none ≡ first_of (test_order edition1) (map not (sheet_rules edition1 (set w j x))) → true ≡ permits (take j w) x
  permitted_nowhere h e = holds_unless _ refl (λ f. let z : ◌≡◌ {A = ℕ} 0 1 = (let r : none ≡ some j = e ∙ f in cc) in omega arith) ∙ sym (by_rule h)

-- the field
pub permitted_field : (w : List ℕ) (j x : ℕ) {b : Bool} → j ≡ 0 → b ≡ permits [] x → b ≡ permits (take j w) x
permitted_field w j x e h = h ∙ ap (λ (n : ℕ). permits (take n w) x) (sym e)

-- ---- the permitted ones among the candidates, one candidate after the other

candidate_count : length candidates ≡ 56
unfolding candidates range
candidate_count = refl

-- After i candidates: n values are permitted, and those among the candidates to come are all the others. Word j may be any.
pub record Tried (start : List ℕ) (j : ℕ) (w values : List ℕ) (n i : ℕ) : Type 0 where
  pub few : n ≤ i
  pub words : length w ≡ 12
  pub places : length values ≡ 56
  pub front : take j w ≡ take j start
  pub all : take n values ++ keep (permits (take j start)) (drop i candidates) ≡ permitted (take j start)

pub none_tried : (start values : List ℕ) (j : ℕ) → length start ≡ 12 → length values ≡ 56 → Tried start j start values 0 0
unfolding permitted
none_tried start values j long room = record { few = omega arith; words = long; places = room; front = refl; all = refl }

pub all_tried : {start w values : List ℕ} {j n i : ℕ} → Tried start j w values n i → 56 ≤ i → take n values ≡ permitted (take j start)
unfolding keep
all_tried {start} {w} {values} {j} {n} {i} t h =
    sym (ap (λ (xs : List ℕ). take n values ++ keep (permits (take j start)) xs) (drop_of_length-le candidates {i = i} (omega (arith, candidate_count))) ∙ append-nil (take n values)) ∙ t.all

module _ {start w u values : List ℕ} {j n i x : ℕ} {b : Bool} (t : Tried start j w values n i) (l : i < 56) (c : x ≡ get_or candidates i 0) (p : b ≡ permits (take j w) x) (e : u ≡ set w j x) where
  test : ℕ → Bool
  test = permits (take j start)

  rest : List ℕ
  rest = keep test (drop (suc i) candidates)

  -- the next candidate in front of those to come
  next : take n values ++ cond b (x ∷ rest) rest ≡ permitted (take j start)
  unfolding keep test rest
  next =
      let q : b ≡ test (get_or candidates i 0) = p ∙ (λ z. permits (t.front z) (c z)) in
      (λ z. take n values ++ cond (q z) (c z ∷ rest) rest)
      ∙ ap (λ (xs : List ℕ). take n values ++ keep test xs) (sym (drop-cons candidates i 0 (omega (arith, candidate_count)))) ∙ t.all

  words_stay : length u ≡ 12
  words_stay = ap length e ∙ simp length-set t.words

  front_stays : take j u ≡ take j start
  front_stays = ap (take j) e ∙ take-set-le j w j x (omega arith) ∙ t.front

  pub one_taken : {later : List ℕ} {m : ℕ} → b ≡ true → later ≡ set values n x → m ≡ n + 1 → Tried start j u later m (i + 1)
  unfolding test rest
  one_taken {later} {m} h f g = record {
    few = omega (arith, t.few);
    words = words_stay;
    places = ap length f ∙ simp length-set t.places;
    front = front_stays;
    all =
        (λ z. take (g z) (f z) ++ keep test (drop (add-one i z) candidates))
        ∙ rw (add-one n) (ap (λ (xs : List ℕ). xs ++ rest) (take-suc-set values n x (omega (arith, t.places, t.few))) ∙ append_snoc (take n values) x rest)
        ∙ ap (λ (y : Bool). take n values ++ cond y (x ∷ rest) rest) (sym h) ∙ next;
  }

  pub one_left : {later : List ℕ} {m : ℕ} → b ≡ false → later ≡ values → m ≡ n → Tried start j u later m (i + 1)
  unfolding test rest
  one_left {later} {m} h f g = record {
    few = omega (arith, t.few);
    words = words_stay;
    places = ap length f ∙ t.places;
    front = front_stays;
    all =
        (λ z. take (g z) (f z) ++ keep test (drop (add-one i z) candidates))
        ∙ ap (λ (y : Bool). take n values ++ cond y (x ∷ rest) rest) (sym h) ∙ next;
  }
