-- What the rules of either edition say of a sheet's words, where none is broken: each folding number, their product, and the size of each word.
use Rattle.std.specs.Prelude.{ℕ, zero, suc, ◌+◌, ◌*◌, ◌/◌, ◌^◌, ◌≤◌, ◌<◌, Bool, true, false, not, cond, ◌&&◌, List, [], ◌∷◌, map, ◌≡◌, refl, eqb, ltb, leb, length, get_or, take, drop, replicate}
use Rattle.std.proofs.Math.Decide.{dec_lt}
use Rattle.std.proofs.Math.Nat
use Rattle.std.proofs.Common.{pow-suc, arith, true≢false, sym, ap, ◌∙◌, drop_of_length-le, pow-add, pow_mono, pow_pos, drop-cons, eqb-true, le-leb, leb-true, lt-ltb, ltb-true}
use Rattle.std.proofs.Math.Nat.{pow-zero}
use Rattle.std.proofs.Math.Path.{subst}
use Rattle.std.proofs.lemmas.List.{get_or-replicate}
use Rattle.std.proofs.lemmas.Bool.{not-false}
use Rattle.definition.specs.Field.{spelling_of}
use Rattle.definition.specs.Lists.{product_of, range}
use Rattle.definition.specs.Reading.{sheet_test}
use Rattle.definition.specs.Sheet.{Edition, between, degree_rule, edition1, edition2, edition_rule, field_rule, fold_places, fold_rule, fold_words, folding_number, largest_size, later_fold_rule, later_rules, out_coins_rule, power_of_two, repetitions_rule, rounds_rule, sheet_length, sheet_rules, size_rule, test_order}
use Rattle.definition.specs.Verdict.{accepted}
use Rattle.list_laws.specs.All.{All, all_at, all_in_map, all_left, all_map, all_right}
use Rattle.list_laws.specs.Booleans.{and_true}
use Rattle.list_laws.specs.Lists.{get_d_map_range, take_replicate}
use Rattle.list_laws.specs.Members.{member_range}
use Rattle.layouts.specs.FileTrip.{Word}
use Rattle.layouts.specs.Levels.{total}
use Rattle.layouts.specs.Spellings.{largest_most}
use Rattle.layouts.specs.Tests.{none_of}

-- one of the powers of two
pub power_of_two_lem : (x : ℕ) → power_of_two x ≡ true → (a : ℕ) × (a < 13) × (x ≡ 2 ^ a)
unfolding power_of_two
power_of_two_lem x e = let q = member_range eqb (λ a. 2 ^ a) x 0 13 e in (q.0, omega (arith, q.2), eqb-true x (2 ^ q.0) q.3)

pub between_true : (l u x : ℕ) → between l u x ≡ true → (l ≤ x) × (x ≤ u)
unfolding between
between_true l u x e = let h = and_true (leb l x) (leb x u) e in (leb-true l x h.0, leb-true x u h.1)

-- a test made only where another is true
if_true : (x y z : Bool) → x ≡ true → cond x y z ≡ true → y ≡ true
if_true true y z h k = k
if_true false y z h k = absurd (true≢false (sym h))

-- every rule has its word
as_many : (ed : Edition) (w : List ℕ) → length (map not (sheet_rules ed w)) ≤ length (test_order ed)
unfolding sheet_rules later_rules test_order range
as_many edition1 w = omega arith
as_many edition2 w = omega arith

-- every rule holds
pub rules_hold : (ed : Edition) (w : List ℕ) → sheet_test ed w ≡ accepted → All (λ (b : Bool). b ≡ true) (sheet_rules ed w)
unfolding sheet_test
rules_hold ed w e =
    all_map (sheet_rules ed w) (all_in_map (λ (b : Bool). b ≡ false) not (sheet_rules ed w) (none_of 3 (test_order ed) (map not (sheet_rules ed w)) (as_many ed w) e)) not-false

-- order of exponents
pub pow_below : (i j : ℕ) → 2 ^ i < 2 ^ j → i < j
pow_below i j h = go (dec_lt i j)
  where
    go : Dec (i < j) → i < j
    go (yes l) = l
    go (no l) = let r : j ≤ i = omega arith in absurd (omega (arith, pow_mono r))

pub pow_most : (i j : ℕ) → 2 ^ i ≤ 2 ^ j → i ≤ j
pow_most i j h = let r : i < suc j = pow_below i (suc j) (omega (arith, pow-suc 2 j, pow_pos j)) in omega arith

-- an exponent that is not 0
pub positive : (x a : ℕ) → x ≡ 2 ^ a → 2 ≤ x → (e : ℕ) × (x ≡ 2 ^ suc e)
positive x zero e h = absurd (omega (arith, pow-zero 2))
positive x (suc a) e h = (a, e)

-- ---- folding numbers

-- the folding numbers of given logarithms less one, and their product
abbrev pub powers_of : List ℕ → List ℕ
powers_of cs = map (λ c. 2 ^ suc c) cs

pub product_powers : (cs : List ℕ) → product_of (powers_of cs) ≡ 2 ^ total (map suc cs)
unfolding product_of total
product_powers [] = sym (pow-zero 2)
product_powers (c ∷ cs) = ap (λ (x : ℕ). 2 ^ suc c * x) (product_powers cs) ∙ sym (pow-add 2 (suc c) (total (map suc cs)))

pub folding_log : (w : List ℕ) (k : ℕ) → folding_number w k ≡ true → (c : ℕ) × (k ≡ 2 ^ suc c)
unfolding folding_number
folding_log w k e =
    let a = and_true (power_of_two k && between 2 16 k) _ e in
    let b = and_true (power_of_two k) (between 2 16 k) a.0 in
    let q = power_of_two_lem k b.0 in
    positive k q.0 q.2 (between_true 2 16 k b.1).0

pub folding_large : (w : List ℕ) (k : ℕ) → folding_number w k ≡ true → 2 ≤ k
unfolding folding_number
folding_large w k e = (between_true 2 16 k (and_true (power_of_two k) (between 2 16 k) (and_true (power_of_two k && between 2 16 k) _ e).0).1).0

pub folding_small : (w : List ℕ) (k : ℕ) → folding_number w k ≡ true → (k ≤ 16) × (k ≤ get_or w 2 0)
unfolding folding_number
folding_small w k e =
    let a = and_true (power_of_two k && between 2 16 k) _ e in
    ((between_true 2 16 k (and_true (power_of_two k) (between 2 16 k) a.0).1).1, leb-true k (get_or w 2 0) a.1)

pub logs : (w : List ℕ) (n : ℕ) (l : List ℕ) → n ≤ length l → ((i : ℕ) → i < n → folding_number w (get_or l i 0) ≡ true) → (cs : List ℕ) × (take n l ≡ powers_of cs)
logs w zero l h f = ([], refl)
logs w (suc n) [] h f = absurd (omega arith)
logs w (suc n) (x ∷ l) h f =
    let c = folding_log w x (f 0 (omega arith)) in
    let r = logs w n l (omega arith) (λ i u. f (suc i) (omega arith)) in
    (c.0 ∷ r.0, λ j. c.1 j ∷ r.1 j)

-- equal numbers
pub product_replicate : (n x : ℕ) → product_of (replicate n x) ≡ x ^ n
unfolding product_of
product_replicate zero x = sym (pow-zero x)
product_replicate (suc n) x = ap (λ (y : ℕ). x * y) (product_replicate n x) ∙ Nat.mul_comm x (x ^ n) ∙ sym (pow-suc x n)

module _ (ed : Edition) (w : List ℕ) (passed : sheet_test ed w ≡ accepted) where
  abbrev M : ℕ
  M = get_or w 4 0

  rules : All (λ (b : Bool). b ≡ true) (sheet_rules ed w)
  rules = rules_hold ed w passed

  pub first_fold : folding_number w (get_or w 3 0) ≡ true
  unfolding sheet_rules fold_rule
  first_fold = rules.1.1.1.0

  rule_of_rounds : rounds_rule ed w ≡ true
  unfolding sheet_rules
  rule_of_rounds = rules.1.1.1.1.0

  pub rules_later : All (λ (b : Bool). b ≡ true) (later_rules ed w)
  unfolding sheet_rules
  rules_later = all_left (λ (b : Bool). b ≡ true) (later_rules ed w) _ rules.1.1.1.1.1.1

  -- the rule of each repetition word
  pub repetitions_hold : (i : ℕ) → i < 6 → repetitions_rule ed w i ≡ true
  unfolding sheet_rules
  repetitions_hold i l =
      subst (λ (j : ℕ). repetitions_rule ed w j ≡ true) (Nat.zero-add i)
      (all_at (λ (j : ℕ). repetitions_rule ed w j ≡ true) 0 6 (all_in_map (λ (b : Bool). b ≡ true) (repetitions_rule ed w) (range 0 6)
      (all_right (λ (b : Bool). b ≡ true) (later_rules ed w) _ rules.1.1.1.1.1.1)) i l)

most_rounds : (ed : Edition) (w : List ℕ) → rounds_rule ed w ≡ true → get_or w 4 0 ≤ 5
unfolding rounds_rule
most_rounds edition1 w h = leb-true (get_or w 4 0) 5 (and_true (leb (get_or w 4 0) 5) _ h).0
most_rounds edition2 w h = leb-true (get_or w 4 0) 5 h

pub rounds_most : (ed : Edition) (w : List ℕ) → sheet_test ed w ≡ accepted → get_or w 4 0 ≤ 5
rounds_most ed w passed = most_rounds ed w (rule_of_rounds ed w passed)

-- the rule of k_i in edition 2, i from 1 on
pub later_fold : (w : List ℕ) → All (λ (b : Bool). b ≡ true) (later_rules edition2 w) → (i : ℕ) → i < 5 → later_fold_rule w (suc i) ≡ true
unfolding later_rules
later_fold w h i l =
    let n : 1 + i ≡ suc i = omega arith in
    subst (λ (j : ℕ). later_fold_rule w j ≡ true) n
    (all_at (λ (j : ℕ). later_fold_rule w j ≡ true) 1 5
    (all_in_map (λ (b : Bool). b ≡ true) (later_fold_rule w) (range 1 5) (all_left (λ (b : Bool). b ≡ true) (map (later_fold_rule w) (range 1 5)) _ h)) i l)

later_folding : (w : List ℕ) → All (λ (b : Bool). b ≡ true) (later_rules edition2 w) → (i : ℕ) → i < 5 → suc i ≤ get_or w 4 0 →
    (folding_number w (get_or w (12 + i) 0) ≡ true) × (product_of (take (suc (suc i)) (fold_words edition2 w)) ≤ get_or w 2 0)
unfolding later_fold_rule
later_folding w h i l m =
    let n : 11 + suc i ≡ 12 + i = omega arith in
    let r = and_true (folding_number w (get_or w (11 + suc i) 0)) _ (if_true (leb (suc i) (get_or w 4 0)) _ _ (le-leb (suc i) (get_or w 4 0) m) (later_fold w h i l)) in
    (subst (λ (j : ℕ). folding_number w (get_or w j 0) ≡ true) n r.0, leb-true (product_of (take (suc (suc i)) (fold_words edition2 w))) (get_or w 2 0) r.1)

-- The folding numbers of either edition: each is one, and their product is at most d0.
pub fold_words_lem : (ed : Edition) (w : List ℕ) → sheet_test ed w ≡ accepted → (i : ℕ) → i ≤ get_or w 4 0 → folding_number w (get_or (fold_words ed w) i 0) ≡ true
unfolding fold_words fold_places
fold_words_lem edition1 w passed i l =
    let m = rounds_most edition1 w passed in
    subst (λ (k : ℕ). folding_number w k ≡ true) (sym (get_or-replicate 6 i (get_or w 3 0) 0 (omega arith))) (first_fold edition1 w passed)
fold_words_lem edition2 w passed zero l = first_fold edition2 w passed
fold_words_lem edition2 w passed (suc i) l =
    let m = rounds_most edition2 w passed in
    subst (λ (k : ℕ). folding_number w k ≡ true) (sym (get_d_map_range (λ j. get_or w j 0) 0 12 5 i (omega arith)))
    (later_folding w (rules_later edition2 w passed) i (omega arith) l).0

pub fold_product_lem : (ed : Edition) (w : List ℕ) → sheet_test ed w ≡ accepted → product_of (take (suc (get_or w 4 0)) (fold_words ed w)) ≤ get_or w 2 0
unfolding fold_words fold_places rounds_rule product_of
fold_product_lem edition1 w passed =
    let m = rounds_most edition1 w passed in
    let k = get_or w 3 0 in
    let M = get_or w 4 0 in
    subst (λ (x : ℕ). x ≤ get_or w 2 0) (sym (ap product_of (take_replicate (suc M) 6 k (omega arith)) ∙ product_replicate (suc M) k))
    (leb-true (k ^ suc M) (get_or w 2 0) (and_true (leb M 5) _ (rule_of_rounds edition1 w passed)).1)
fold_product_lem edition2 w passed = go (get_or w 4 0) refl
  where
    go : (m : ℕ) → get_or w 4 0 ≡ m → product_of (take (suc m) (fold_words edition2 w)) ≤ get_or w 2 0
    go zero e = omega (arith, (folding_small w (get_or w 3 0) (first_fold edition2 w passed)).1, Nat.mul-one (get_or w 3 0))
    go (suc m) e = (later_folding w (rules_later edition2 w passed) m (omega (arith, rounds_most edition2 w passed)) (omega arith)).1

pub fold_count : (ed : Edition) (w : List ℕ) → length (fold_words ed w) ≡ 6
unfolding fold_words fold_places range
fold_count edition1 w = refl
fold_count edition2 w = refl

pub short_sheet : (ed : Edition) → sheet_length ed ≤ 18
short_sheet edition1 = omega arith
short_sheet edition2 = omega arith

pub long_enough : (ed : Edition) (w : List ℕ) → sheet_length ed ≤ length w → 12 ≤ length w
long_enough edition1 w l = l
long_enough edition2 w l = omega arith

-- each repetition word is at most 48
pub count_small : (ed : Edition) (w : List ℕ) (i : ℕ) → repetitions_rule ed w i ≡ true → get_or w (6 + i) 0 ≤ 48
unfolding repetitions_rule
count_small ed w i e = go (ltb i (get_or w 4 0)) (eqb i (get_or w 4 0)) _ e
  where
    t : ℕ
    t = get_or w (6 + i) 0

    go : (x y v : Bool) → cond x (between 1 48 t && v) (cond y (between 1 48 t) (eqb t 0)) ≡ true → t ≤ 48
    go true y v k = (between_true 1 48 t (and_true (between 1 48 t) v k).0).1
    go false true v k = (between_true 1 48 t k).1
    go false false v k = let z : t ≡ 0 = eqb-true t 0 k in omega arith

pub small_repetitions : (ed : Edition) (w : List ℕ) → sheet_test ed w ≡ accepted → (i : ℕ) → i < 6 → get_or w (6 + i) 0 ≤ 48
small_repetitions ed w passed i l = count_small ed w i (repetitions_hold ed w passed i l)

-- t_i + s < d_(i+1), for i below M
pub few_points : (ed : Edition) (w : List ℕ) → sheet_test ed w ≡ accepted → (i : ℕ) → i < get_or w 4 0 →
    get_or w (6 + i) 0 + get_or w 5 0 < get_or w 2 0 / product_of (take (suc i) (fold_words ed w))
unfolding repetitions_rule
few_points ed w passed i l =
    let m = rounds_most ed w passed in
    ltb-true _ _ (and_true (between 1 48 (get_or w (6 + i) 0)) _ (if_true (ltb i (get_or w 4 0)) _ _ (lt-ltb i (get_or w 4 0) l) (repetitions_hold ed w passed i (omega arith)))).1

-- ---- the words

-- a list of n words, word by word
words_from : List ℕ → ℕ → ℕ → List ℕ
words_from w i zero = []
words_from w i (suc n) = get_or w i 0 ∷ words_from w (suc i) n

words_from_lem : (w : List ℕ) (i n : ℕ) → i + n ≡ length w → drop i w ≡ words_from w i n
unfolding words_from
words_from_lem w i zero e = drop_of_length-le w {i = i} (omega arith)
words_from_lem w i (suc n) e = drop-cons w i 0 (omega arith) ∙ ap {B = List ℕ} (λ t. get_or w i 0 ∷ t) (words_from_lem w (suc i) n (omega arith))

pub twelve : (w : List ℕ) → length w ≡ 12 → w ≡ get_or w 0 0 ∷ get_or w 1 0 ∷ get_or w 2 0 ∷ get_or w 3 0 ∷ get_or w 4 0 ∷ get_or w 5 0
    ∷ get_or w 6 0 ∷ get_or w 7 0 ∷ get_or w 8 0 ∷ get_or w 9 0 ∷ get_or w 10 0 ∷ get_or w 11 0 ∷ []
unfolding words_from
twelve w h = words_from_lem w 0 12 (omega arith)

pub eighteen : (w : List ℕ) → length w ≡ 18 → w ≡ get_or w 0 0 ∷ get_or w 1 0 ∷ get_or w 2 0 ∷ get_or w 3 0 ∷ get_or w 4 0 ∷ get_or w 5 0
    ∷ get_or w 6 0 ∷ get_or w 7 0 ∷ get_or w 8 0 ∷ get_or w 9 0 ∷ get_or w 10 0 ∷ get_or w 11 0
    ∷ get_or w 12 0 ∷ get_or w 13 0 ∷ get_or w 14 0 ∷ get_or w 15 0 ∷ get_or w 16 0 ∷ get_or w 17 0 ∷ []
unfolding words_from
eighteen w h = words_from_lem w 0 18 (omega arith)

-- k_1 to k_5 are at most 16
small_fold : (w : List ℕ) → All (λ (b : Bool). b ≡ true) (later_rules edition2 w) → (i : ℕ) → i < 5 → get_or w (11 + suc i) 0 ≤ 16
unfolding later_fold_rule
small_fold w h i l = go (leb (suc i) (get_or w 4 0)) _ (later_fold w h i l)
  where
    k : ℕ
    k = get_or w (11 + suc i) 0

    go : (x v : Bool) → cond x (folding_number w k && v) (eqb k 0) ≡ true → k ≤ 16
    go true v e = (folding_small w k (and_true (folding_number w k) v e).0).0
    go false v e = let z : k ≡ 0 = eqb-true k 0 e in omega arith

pub edition_number : (w : List ℕ) → All (λ (b : Bool). b ≡ true) (later_rules edition2 w) → get_or w 17 0 ≡ 2
unfolding later_rules edition_rule
edition_number w h = eqb-true (get_or w 17 0) 2 (all_right (λ (b : Bool). b ≡ true) (map (later_fold_rule w) (range 1 5)) _ h).0

-- words 0 to 5 are small
pub front_words : (ed : Edition) (w : List ℕ) → sheet_test ed w ≡ accepted →
    (get_or w 0 0 < 4) × (get_or w 1 0 ≤ 4096) × (get_or w 2 0 ≤ 4096) × (get_or w 3 0 ≤ 16) × (get_or w 4 0 ≤ 5) × (get_or w 5 0 ≤ 2)
unfolding sheet_rules field_rule size_rule degree_rule out_coins_rule
front_words ed w e =
    let h = rules_hold ed w e in
    let u = largest_size (spelling_of (get_or w 0 0)) in
    let n = between_true 4 u (get_or w 1 0) (and_true (power_of_two (get_or w 1 0)) _ (and_true (power_of_two (get_or w 1 0) && between 4 u (get_or w 1 0)) _ h.1.0).0).1 in
    let most = largest_most (spelling_of (get_or w 0 0)) in
    let d = between_true 2 (get_or w 1 0 / 2) (get_or w 2 0) (and_true (power_of_two (get_or w 2 0)) _ h.1.1.0).1 in
    let s = between_true 1 2 (get_or w 5 0) h.1.1.1.1.1.0 in
    (ltb-true (get_or w 0 0) 4 h.0, omega (arith, n.1, most), omega (arith, d.1, n.1, most), (folding_small w (get_or w 3 0) (first_fold ed w e)).0, rounds_most ed w e, s.1)

-- every word of a sheet that passes has 32 bits
pub sheet_words_lem : (ed : Edition) (w : List ℕ) → length w ≡ sheet_length ed → sheet_test ed w ≡ accepted → All Word w
sheet_words_lem edition1 w l e =
    let f = front_words edition1 w e in
    let t = small_repetitions edition1 w e in
    subst (All Word) (sym (twelve w l))
    (omega (arith, f, t 0 (omega arith), t 1 (omega arith), t 2 (omega arith), t 3 (omega arith), t 4 (omega arith), t 5 (omega arith)))
sheet_words_lem edition2 w l e =
    let f = front_words edition2 w e in
    let t = small_repetitions edition2 w e in
    let r = rules_later edition2 w e in
    let k = small_fold w r in
    subst (All Word) (sym (eighteen w l))
    (omega (
      arith,
      f,
      t 0 (omega arith),
      t 1 (omega arith),
      t 2 (omega arith),
      t 3 (omega arith),
      t 4 (omega arith),
      t 5 (omega arith),
      k 0 (omega arith),
      k 1 (omega arith),
      k 2 (omega arith),
      k 3 (omega arith),
      k 4 (omega arith),
      edition_number w r,
    ))
