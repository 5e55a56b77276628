-- The sheet's rules in plain numbers: none is broken exactly when these hold. In edition 1 they are those of its one folding number.
use Rattle.std.specs.Prelude.{ℕ, zero, suc, ◌+◌, ◌/◌, ◌^◌, ◌≤◌, ◌<◌, Bool, false, cond, ◌&&◌, List, [], ◌∷◌, map, ◌↔◌, ◌≡◌, refl, eqb, leb, ltb, take}
use Rattle.std.proofs.Math.Decide.{dec_lt}
use native.Mathlib.Nat.{mul-le-mul_left}
use Rattle.std.proofs.Common.{arith, sym, ◌∙◌}
use Rattle.std.proofs.Math.Bool.{true, not}
use Rattle.std.proofs.Math.Path.{ap, subst}
use Rattle.std.proofs.Math.ListN.{get_or, get_or-replicate}
use borrow.Author.Tests.{eq-eqb, eqb-true, le-leb, le-ltb, lt-leb, lt-ltb, ltb-true, ne_eqb}
use Rattle.definition.specs.Field.{spelling_of}
use Rattle.definition.specs.Lists.{product_of, range}
use Rattle.definition.specs.Reading.{sheet_test}
use Rattle.definition.specs.Sheet.{Edition, between, degree_rule, edition1, edition2, edition_rule, field_rule, fold_places, fold_rule, fold_words, folding_number, largest_size, later_fold_rule, later_rules, out_coins_rule, power_of_two, repetitions_rule, rounds_rule, sheet_length, sheet_rules, size_rule, test_order}
use Rattle.definition.specs.Verdict.{accepted}
use Rattle.list_laws.specs.All.{All, all_append, all_map, all_of_map, all_range}
use Rattle.list_laws.specs.Booleans.{and_true}
use Rattle.list_laws.specs.Lists.{get_d_map_range, take_replicate}
use Rattle.list_laws.specs.Members.{range_member}
use Rattle.layouts.specs.PlainRules.{KeepsRule, LaterWords, PlainSheet, PlainSheet1}
use Rattle.layouts.proofs.RulesByWord.{sheet_exactly}
use Rattle.layouts.specs.SheetRules.{between_true, edition_number, few_points, fold_product_lem, fold_words_lem, folding_large, folding_log, folding_small, later_fold, pow_most, power_of_two_lem, product_replicate, repetitions_hold, rounds_most, rules_hold, rules_later}
use Rattle.layouts.specs.Spellings.{largest_most}
use Rattle.layouts.specs.Tests.{at_none, none_found}

both : (a b : Bool) → a ≡ true → b ≡ true → (a && b) ≡ true
both a b e f = λ i. e i && f i

is_between : (low high x : ℕ) → low ≤ x → x ≤ high → between low high x ≡ true
unfolding between
is_between low high x l u = both (leb low x) (leb x high) (le-leb low x l) (le-leb x high u)

-- a power of two up to 4096
pub is_power : (x a : ℕ) → x ≡ 2 ^ a → x ≤ 4096 → power_of_two x ≡ true
unfolding power_of_two
is_power x a e l =
    let h : 2 ^ a ≤ 2 ^ 12 = subst (λ (y : ℕ). y ≤ 4096) e l in
    range_member eqb (λ b. 2 ^ b) x 0 13 a (omega arith) (omega (arith, pow_most a 12 h)) (eq-eqb x (2 ^ a) e)

when_true : (x y z : Bool) → x ≡ true → cond x y z ≡ y
when_true x y z e = ap (λ (b : Bool). cond b y z) e

when_false : (x y z : Bool) → x ≡ false → cond x y z ≡ z
when_false x y z e = ap (λ (b : Bool). cond b y z) e

-- a product is at least 1, and at most what it is with more factors
product_some : (m : ℕ) (l : List ℕ) → ((j : ℕ) → j < m → 1 ≤ get_or l j 0) → 1 ≤ product_of (take m l)
unfolding product_of
product_some zero l h = omega arith
product_some (suc m) [] h = omega arith
product_some (suc m) (x ∷ l) h = omega (arith, mul-le-mul_left x (product_some m l (λ j u. h (suc j) (omega arith))), h 0 (omega arith), native.Mathlib.Nat.mul-one x)

product_grows : (i m : ℕ) (l : List ℕ) → i ≤ m → ((j : ℕ) → j < m → 1 ≤ get_or l j 0) → product_of (take i l) ≤ product_of (take m l)
unfolding product_of
product_grows zero m l u h = product_some m l h
product_grows (suc i) zero l u h = absurd (omega arith)
product_grows (suc i) (suc m) [] u h = omega arith
product_grows (suc i) (suc m) (x ∷ l) u h = mul-le-mul_left x (product_grows i m l (omega arith) (λ j v. h (suc j) (omega arith)))

-- the folding words by number
pub first_word : (ed : Edition) (w : List ℕ) → get_or (fold_words ed w) 0 0 ≡ get_or w 3 0
unfolding fold_words fold_places
first_word edition1 w = refl
first_word edition2 w = refl

pub later_word : (w : List ℕ) (j : ℕ) → 1 ≤ j → j < 6 → get_or (fold_words edition2 w) j 0 ≡ get_or w (11 + j) 0
unfolding fold_words fold_places
later_word w zero l u = absurd (omega arith)
later_word w (suc j) l u = get_d_map_range (λ i. get_or w i 0) 0 12 5 j (omega arith) ∙ ap (λ (n : ℕ). get_or w n 0) (let e : 12 + j ≡ 11 + suc j = omega arith in e)

is_folding : (w : List ℕ) (k c : ℕ) → k ≡ 2 ^ c → (2 ≤ k) × (k ≤ 16) × (k ≤ get_or w 2 0) → folding_number w k ≡ true
unfolding folding_number
is_folding w k c e h =
    both _ _ (both (power_of_two k) (between 2 16 k) (is_power k c e (omega (arith, h.1))) (is_between 2 16 k h.0 h.1)) (le-leb k (get_or w 2 0) h.2)

module _ (ed : Edition) (w : List ℕ) where
  -- the rule of t_i, in each of its three cases
  rule_below : (i : ℕ) → i < get_or w 4 0 → repetitions_rule ed w i ≡ (between 1 48 (get_or w (6 + i) 0) && ltb (get_or w (6 + i) 0 + get_or w 5 0) (get_or w 2 0 / product_of (take (suc i) (fold_words ed w))))
  unfolding repetitions_rule
  rule_below i l = when_true (ltb i (get_or w 4 0)) _ _ (lt-ltb i (get_or w 4 0) l)

  rule_last : (i : ℕ) → i ≡ get_or w 4 0 → repetitions_rule ed w i ≡ between 1 48 (get_or w (6 + i) 0)
  unfolding repetitions_rule
  rule_last i e = when_false (ltb i (get_or w 4 0)) _ _ (le-ltb i (get_or w 4 0) (omega arith)) ∙ when_true (eqb i (get_or w 4 0)) _ _ (eq-eqb i (get_or w 4 0) e)

  rule_past : (i : ℕ) → get_or w 4 0 < i → repetitions_rule ed w i ≡ eqb (get_or w (6 + i) 0) 0
  unfolding repetitions_rule
  rule_past i l = when_false (ltb i (get_or w 4 0)) _ _ (le-ltb i (get_or w 4 0) (omega arith)) ∙ when_false (eqb i (get_or w 4 0)) _ _ (ne_eqb i (get_or w 4 0) (omega arith))

-- what edition 2 asks besides
words_later : (ed : Edition) (w : List ℕ) → All (λ (b : Bool). b ≡ true) (later_rules ed w) → LaterWords ed w
unfolding later_fold_rule
words_later edition1 w h = tt
words_later edition2 w h = (past, edition_number w h)
  where
    past : (i : ℕ) → get_or w 4 0 < i → i < 6 → get_or w (11 + i) 0 ≡ 0
    past zero l u = absurd (omega arith)
    past (suc i) l u = eqb-true _ 0 (sym (when_false (leb (suc i) (get_or w 4 0)) _ _ (lt-leb (suc i) (get_or w 4 0) l)) ∙ later_fold w h i (omega arith))

module _ (ed : Edition) (w : List ℕ) where
  pub sheet_plain : sheet_test ed w ≡ accepted → PlainSheet ed w
  unfolding sheet_rules field_rule size_rule degree_rule out_coins_rule
  sheet_plain e =
      let h = rules_hold ed w e in
      let n = get_or w 1 0 in
      let u = largest_size (spelling_of (get_or w 0 0)) in
      let s₁ = and_true (power_of_two n && between 4 u n) _ h.1.0 in
      let s₂ = and_true (power_of_two n) (between 4 u n) s₁.0 in
      let d₁ = and_true (power_of_two (get_or w 2 0)) _ h.1.1.0 in
      let p = power_of_two_lem n s₂.0 in
      let q = power_of_two_lem (get_or w 2 0) d₁.0 in
      let m = rounds_most ed w e in
      record {
        plain = record {
          field = ltb-true (get_or w 0 0) 4 h.0;
          size_power = (p.0, p.2);
          size_range = between_true 4 u n s₂.1;
          size_divides = eqb-true _ 0 s₁.1;
          degree_power = (q.0, q.2);
          degree_range = between_true 2 (n / 2) (get_or w 2 0) d₁.1;
          rounds_range = m;
          outs_range = between_true 1 2 (get_or w 5 0) h.1.1.1.1.1.0;
          times_range = λ i l. in_range i l (repetitions_hold ed w e i (omega arith)) (dec_lt i (get_or w 4 0));
          times_zero = λ i l u. eqb-true _ 0 (sym (rule_past ed w i l) ∙ repetitions_hold ed w e i u);
        };
        fold_power = λ i l. let c = folding_log w (get_or (fold_words ed w) i 0) (fold_words_lem ed w e i l) in (suc c.0, c.1);
        fold_range = λ i l. let f = fold_words_lem ed w e i l in (folding_large w _ f, (folding_small w _ f).0, (folding_small w _ f).1);
        fold_product = fold_product_lem ed w e;
        times_few = few_points ed w e;
        later_words = words_later ed w (rules_later ed w e);
      }
    where
      in_range : (i : ℕ) → i ≤ get_or w 4 0 → repetitions_rule ed w i ≡ true → Dec (i < get_or w 4 0) → (1 ≤ get_or w (6 + i) 0) × (get_or w (6 + i) 0 ≤ 48)
      in_range i l r (yes u) = between_true 1 48 (get_or w (6 + i) 0) (and_true (between 1 48 (get_or w (6 + i) 0)) _ (sym (rule_below ed w i u) ∙ r)).0
      in_range i l r (no u) = between_true 1 48 (get_or w (6 + i) 0) (sym (rule_last ed w i (omega arith)) ∙ r)

-- from the plain facts back to the rules: word 4 and the words past word 11, by the edition
rounds_rule_lem : (ed : Edition) (w : List ℕ) → PlainSheet ed w → rounds_rule ed w ≡ true
unfolding rounds_rule fold_words fold_places
rounds_rule_lem edition1 w s =
    let m = get_or w 4 0 in
    let k = get_or w 3 0 in
    both _ _ (le-leb m 5 s.plain.rounds_range)
    (le-leb (k ^ suc m) (get_or w 2 0) (subst (λ (x : ℕ). x ≤ get_or w 2 0) (ap product_of (take_replicate (suc m) 6 k (omega (arith, s.plain.rounds_range))) ∙ product_replicate (suc m) k) s.fold_product))
rounds_rule_lem edition2 w s = le-leb (get_or w 4 0) 5 s.plain.rounds_range

later_rules_lem : (ed : Edition) (w : List ℕ) → PlainSheet ed w → All (λ (b : Bool). b ≡ true) (later_rules ed w)
unfolding later_rules later_fold_rule edition_rule
later_rules_lem edition1 w s = tt
later_rules_lem edition2 w s =
    all_append (λ (b : Bool). b ≡ true) (map (later_fold_rule w) (range 1 5)) _
    (all_of_map (λ (b : Bool). b ≡ true) (later_fold_rule w) (range 1 5) (all_range _ 1 5 (λ j a u. fold j a (omega arith) (dec_lt (get_or w 4 0) j))))
    (eq-eqb (get_or w 17 0) 2 s.later_words.1, tt)
  where
    fold : (j : ℕ) → 1 ≤ j → j < 6 → Dec (get_or w 4 0 < j) →
        cond (leb j (get_or w 4 0)) (folding_number w (get_or w (11 + j) 0) && leb (product_of (take (suc j) (fold_words edition2 w))) (get_or w 2 0)) (eqb (get_or w (11 + j) 0) 0) ≡ true
    fold j a u (yes l) = when_false (leb j (get_or w 4 0)) _ _ (lt-leb j (get_or w 4 0) l) ∙ eq-eqb _ 0 (s.later_words.0 j l u)
    fold j a u (no l) =
        let p = s.fold_power j (omega arith) in
        let e = later_word w j a u in
        let g = product_grows (suc j) (suc (get_or w 4 0)) (fold_words edition2 w) (omega arith) (λ i v. let r = s.fold_range i (omega arith) in omega (arith, r.0)) in
        when_true (leb j (get_or w 4 0)) _ _ (le-leb j (get_or w 4 0) (omega arith))
        ∙ both _ _ (subst (λ (k : ℕ). folding_number w k ≡ true) e (is_folding w _ p.0 p.1 (s.fold_range j (omega arith))))
        (le-leb _ (get_or w 2 0) (omega (arith, g, s.fold_product)))

module _ (ed : Edition) (w : List ℕ) (s : PlainSheet ed w) where
  time : (j : ℕ) → j < 6 → Dec (j < get_or w 4 0) → Dec (get_or w 4 0 < j) → repetitions_rule ed w j ≡ true
  time j u (yes a) b = let t = s.plain.times_range j (omega arith) in rule_below ed w j a ∙ both _ _ (is_between 1 48 (get_or w (6 + j) 0) t.0 t.1) (lt-ltb _ _ (s.times_few j a))
  time j u (no a) (yes b) = rule_past ed w j b ∙ eq-eqb (get_or w (6 + j) 0) 0 (s.plain.times_zero j b u)
  time j u (no a) (no b) = let t = s.plain.times_range j (omega arith) in rule_last ed w j (omega arith) ∙ is_between 1 48 (get_or w (6 + j) 0) t.0 t.1

  fold_rule_lem : fold_rule w ≡ true
  unfolding fold_rule
  fold_rule_lem =
      let p = s.fold_power 0 (omega arith) in
      subst (λ (k : ℕ). folding_number w k ≡ true) (first_word ed w) (is_folding w (get_or (fold_words ed w) 0 0) p.0 p.1 (s.fold_range 0 (omega arith)))

  all_rules : All (λ (b : Bool). b ≡ true) (sheet_rules ed w)
  unfolding sheet_rules field_rule size_rule degree_rule out_coins_rule
  all_rules = (
    lt-ltb (get_or w 0 0) 4 s.plain.field,
    (
      both _ _ (both _ _ (is_power (get_or w 1 0) s.plain.size_power.0 s.plain.size_power.1 (omega (arith, s.plain.size_range.1, largest_most (spelling_of (get_or w 0 0))))) (is_between 4 (largest_size (spelling_of (get_or w 0 0))) (get_or w 1 0) s.plain.size_range.0 s.plain.size_range.1)) (eq-eqb _ 0 s.plain.size_divides),
      (
        both _ _ (is_power (get_or w 2 0) s.plain.degree_power.0 s.plain.degree_power.1 (omega (arith, s.plain.degree_range.1, s.plain.size_range.1, largest_most (spelling_of (get_or w 0 0))))) (is_between 2 (get_or w 1 0 / 2) (get_or w 2 0) s.plain.degree_range.0 s.plain.degree_range.1),
        (
          fold_rule_lem,
          (
            rounds_rule_lem ed w s,
            (
              is_between 1 2 (get_or w 5 0) s.plain.outs_range.0 s.plain.outs_range.1,
              all_append (λ (b : Bool). b ≡ true) (later_rules ed w) _ (later_rules_lem ed w s)
                  (all_of_map (λ (b : Bool). b ≡ true) (repetitions_rule ed w) (range 0 6) (all_range _ 0 6 (λ j a u. time j (omega arith) (dec_lt j (get_or w 4 0)) (dec_lt (get_or w 4 0) j)))),
            ),
          ),
        ),
      ),
    ),
  )

  pub plain_sheet : sheet_test ed w ≡ accepted
  unfolding sheet_test
  plain_sheet =
      at_none 3 _ (none_found (test_order ed) (map not (sheet_rules ed w))
      (all_of_map (λ (b : Bool). b ≡ false) not (sheet_rules ed w) (all_map (sheet_rules ed w) all_rules (λ b e. ap not e))))

pub rules_exactly : (ed : Edition) (w : List ℕ) → ((i : ℕ) → i < sheet_length ed → KeepsRule ed w i) ↔ PlainSheet ed w
rules_exactly ed w = (λ k. sheet_plain ed w ((sheet_exactly ed w).1 k), λ s. (sheet_exactly ed w).0 (plain_sheet ed w s))

-- edition 1: every folding word is word 3, and the product of i of them is its power
module _ (w : List ℕ) where
  pub fold_one : (i : ℕ) → i < 6 → get_or (fold_words edition1 w) i 0 ≡ get_or w 3 0
  unfolding fold_words fold_places
  fold_one i l = get_or-replicate 6 i (get_or w 3 0) 0 l

  pub product_one : (i : ℕ) → i ≤ 6 → product_of (take i (fold_words edition1 w)) ≡ get_or w 3 0 ^ i
  unfolding fold_words fold_places
  product_one i l = ap product_of (take_replicate i 6 (get_or w 3 0) l) ∙ product_replicate i (get_or w 3 0)

  one_fold : PlainSheet edition1 w → PlainSheet1 w
  one_fold s =
      let m = s.plain.rounds_range in
      let e = fold_one 0 (omega arith) in
      let c = s.fold_power 0 (omega arith) in
      let r = s.fold_range 0 (omega arith) in
      record {
        plain = s.plain;
        fold_power = (c.0, sym e ∙ c.1);
        fold_range = (omega (arith, e, r.0), omega (arith, e, r.1), omega (arith, e, r.2));
        fold_product = subst (λ (x : ℕ). x ≤ get_or w 2 0) (product_one (suc (get_or w 4 0)) (omega arith)) s.fold_product;
        times_few = λ i l. subst (λ (x : ℕ). get_or w (6 + i) 0 + get_or w 5 0 < get_or w 2 0 / x) (product_one (suc i) (omega arith)) (s.times_few i l);
      }

  fold_list : PlainSheet1 w → PlainSheet edition1 w
  fold_list s =
      let m = s.plain.rounds_range in
      let r = s.fold_range in
      record {
        plain = s.plain;
        fold_power = λ i l. (s.fold_power.0, fold_one i (omega arith) ∙ s.fold_power.1);
        fold_range = λ i l. let e = fold_one i (omega arith) in (omega (arith, e, r.0), omega (arith, e, r.1), omega (arith, e, r.2));
        fold_product = subst (λ (x : ℕ). x ≤ get_or w 2 0) (sym (product_one (suc (get_or w 4 0)) (omega arith))) s.fold_product;
        times_few = λ i l. subst (λ (x : ℕ). get_or w (6 + i) 0 + get_or w 5 0 < get_or w 2 0 / x) (sym (product_one (suc i) (omega arith))) (s.times_few i l);
        later_words = tt;
      }

  pub rules_exactly_1 : ((i : ℕ) → i < 12 → KeepsRule edition1 w i) ↔ PlainSheet1 w
  rules_exactly_1 = (λ k. one_fold ((rules_exactly edition1 w).0 k), λ s. (rules_exactly edition1 w).1 (fold_list s))
