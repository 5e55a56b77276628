-- Each sheet word's rule of the definition, in plain numbers: where the words before it keep theirs, it holds exactly when the plain rule does.
use Rattle.std.specs.Prelude.{ℕ, zero, suc, ◌+◌, ◌-◌, ◌*◌, ◌/◌, ◌%◌, ◌^◌, ◌≤◌, ◌<◌, Bool, true, false, cond, ◌&&◌, List, [], ◌∷◌, ◌++◌, map, ◌↔◌, ◌≡◌, refl, eqb, leb, ltb, length, get_or, take}
use Rattle.std.proofs.Common.{add-zero, div-add-mod', mul-one, true≢false, sym, ap, ◌∙◌, subst, eq-eqb, eqb-true, le-leb, leb-false, leb-true, lt-ltb, ltb-false, ltb-true}
use Rattle.std.proofs.Math.Nat.{mul-mod_left}
use native.Mathlib.Omega.{arith}
use Rattle.std.proofs.lemmas.Bool.{eqb-false}
use Rattle.definition.specs.Field.{four, one, prime_of, spelling_of}
use Rattle.definition.specs.Lists.{product_of, range}
use Rattle.definition.specs.Sheet.{Edition, between, degree_rule, edition1, edition2, edition_rule, field_rule, fold_places, fold_rule, fold_words, folding_number, largest_size, later_fold_rule, later_rules, out_coins_rule, power_of_two, repetitions_rule, rounds_rule, sheet_length, sheet_rules, size_rule, test_order}
use Rattle.layouts.proofs.LevelsByNumber.{product_next}
use Rattle.layouts.specs.PlainRules.{KeepsRule, word_turn}
use Rattle.layouts.proofs.PlainSheet.{is_power, later_word, product_one}
use Rattle.layouts.proofs.RulesByWord.{rules_count, word_of_turn}
use Rattle.layouts.specs.SheetRules.{fold_count, power_of_two_lem}
use Rattle.list_laws.specs.Booleans.{and_true}
use Rattle.sheet_laws.specs.WordRules.{DegreeRule, Divides, FoldingNumber, LaterFoldRule, PlainRule, PowerOfTwo, RepetitionsRule, RoundsRule, SizeRule, fold_product, next_degree}

-- tests joined, and tests on numbers
both : {P Q : Type 0} (a b : Bool) → (a ≡ true) ↔ P → (b ≡ true) ↔ Q → ((a && b) ≡ true) ↔ (P × Q)
both a b p q = (λ e. let h = and_true a b e in (p.0 h.0, q.0 h.1), λ h. λ i. p.1 h.0 i && q.1 h.1 i)

below : (x y : ℕ) → (ltb x y ≡ true) ↔ (x < y)
below x y = (ltb-true x y, lt-ltb x y)

most : (x y : ℕ) → (leb x y ≡ true) ↔ (x ≤ y)
most x y = (leb-true x y, le-leb x y)

same : (x y : ℕ) → (eqb x y ≡ true) ↔ (x ≡ y)
same x y = (eqb-true x y, eq-eqb x y)

in_range : (low high x : ℕ) → (between low high x ≡ true) ↔ ((low ≤ x) × (x ≤ high))
unfolding between
in_range low high x = both (leb low x) (leb x high) (most low x) (most x high)

divides : (n m : ℕ) → (m % n ≡ 0) ↔ Divides n m
divides n m = (
  λ e. (m / n, sym (add-zero (m / n * n)) ∙ ap (λ (r : ℕ). m / n * n + r) (sym e) ∙ div-add-mod' m n),
  λ h. ap (λ (x : ℕ). x % n) (sym h.1) ∙ mul-mod_left h.0 n,
)

powers : (x : ℕ) → power_of_two x ≡ true → PowerOfTwo x
powers x e = let p = power_of_two_lem x e in (p.0, p.2)

-- the largest n0, by the field
size_limit : (field n : ℕ) → (n ≤ largest_size (spelling_of field)) ↔ ((n ≤ 4096) × (field ≡ 3 → n ≤ 1024))
unfolding largest_size spelling_of
size_limit field n = by_spelling (eqb field 3) refl
  where
    by_spelling : (b : Bool) → eqb field 3 ≡ b → (n ≤ largest_size (cond b four one)) ↔ ((n ≤ 4096) × (field ≡ 3 → n ≤ 1024))
    by_spelling true e = (λ l. (omega arith, λ q. l), λ h. h.1 (eqb-true field 3 e))
    by_spelling false e = (λ l. (l, λ q. absurd (true≢false (sym (eq-eqb field 3 q) ∙ e))), λ h. h.0)

size_rule_lem : (w : List ℕ) → (size_rule w ≡ true) ↔ SizeRule w
unfolding size_rule
size_rule_lem w = (
  λ e. let t = size_tests.0 e in
      let l = (size_limit (get_or w 0 0) n0).0 t.0.1.1 in
      (powers n0 t.0.0, t.0.1.0, l.0, l.1, t.1),
  λ h. size_tests.1 ((is_power n0 h.0.0 h.0.1 h.2, (h.1, (size_limit (get_or w 0 0) n0).1 (h.2, h.3))), h.4),
)
  where
    n0 : ℕ
    n0 = get_or w 1 0

    largest : ℕ
    largest = largest_size (spelling_of (get_or w 0 0))

    size_tests : ((power_of_two n0 && between 4 largest n0 && eqb ((prime_of (get_or w 0 0) - 1) % n0) 0) ≡ true) ↔ (((power_of_two n0 ≡ true) × ((4 ≤ n0) × (n0 ≤ largest))) × Divides n0 (prime_of (get_or w 0 0) - 1))
    size_tests =
        let d = divides n0 (prime_of (get_or w 0 0) - 1) in
        let q = same ((prime_of (get_or w 0 0) - 1) % n0) 0 in
        both (power_of_two n0 && between 4 largest n0) (eqb ((prime_of (get_or w 0 0) - 1) % n0) 0) (both (power_of_two n0) (between 4 largest n0) (λ e. e, λ e. e) (in_range 4 largest n0)) (λ e. d.0 (q.0 e), λ e. q.1 (d.1 e))

-- d0 is at most n0/2, and so among the powers that the definition lists
degree_rule_lem : (w : List ℕ) → get_or w 1 0 ≤ 4096 → (degree_rule w ≡ true) ↔ DegreeRule w
unfolding degree_rule
degree_rule_lem w small = (
  λ e. let t = degree_tests.0 e in (powers d0 t.0, t.1.0, t.1.1),
  λ h. degree_tests.1 (is_power d0 h.0.0 h.0.1 (omega (arith, h.2)), (h.1, h.2)),
)
  where
    d0 : ℕ
    d0 = get_or w 2 0

    degree_tests : ((power_of_two d0 && between 2 (get_or w 1 0 / 2) d0) ≡ true) ↔ ((power_of_two d0 ≡ true) × ((2 ≤ d0) × (d0 ≤ get_or w 1 0 / 2)))
    degree_tests = both (power_of_two d0) (between 2 (get_or w 1 0 / 2) d0) (λ e. e, λ e. e) (in_range 2 (get_or w 1 0 / 2) d0)

folding_number_lem : (w : List ℕ) (k : ℕ) → (folding_number w k ≡ true) ↔ FoldingNumber w k
unfolding folding_number
folding_number_lem w k = (
  λ e. let t = fold_tests.0 e in (powers k t.0.0, t.0.1.0, t.0.1.1, t.1),
  λ h. fold_tests.1 ((is_power k h.0.0 h.0.1 (omega (arith, h.2)), (h.1, h.2)), h.3),
)
  where
    fold_tests : ((power_of_two k && between 2 16 k && leb k (get_or w 2 0)) ≡ true) ↔ (((power_of_two k ≡ true) × ((2 ≤ k) × (k ≤ 16))) × (k ≤ get_or w 2 0))
    fold_tests = both (power_of_two k && between 2 16 k) (leb k (get_or w 2 0)) (both (power_of_two k) (between 2 16 k) (λ e. e, λ e. e) (in_range 2 16 k)) (most k (get_or w 2 0))

rounds_rule_lem : (ed : Edition) (w : List ℕ) → (rounds_rule ed w ≡ true) ↔ RoundsRule ed w
unfolding rounds_rule
rounds_rule_lem edition1 w = both (leb (get_or w 4 0) 5) (leb (get_or w 3 0 ^ suc (get_or w 4 0)) (get_or w 2 0)) (most (get_or w 4 0) 5) (most (get_or w 3 0 ^ suc (get_or w 4 0)) (get_or w 2 0))
rounds_rule_lem edition2 w = most (get_or w 4 0) 5

-- edition 2: the product of the first folding words
product_two : (w : List ℕ) (i : ℕ) → i < 6 → product_of (take (suc i) (fold_words edition2 w)) ≡ fold_product w i
unfolding fold_product fold_words fold_places product_of
product_two w zero l = mul-one (get_or w 3 0)
product_two w (suc i) l =
    let n : 11 + suc i ≡ 12 + i = omega arith in
    product_next (suc i) (fold_words edition2 w) (omega (arith, fold_count edition2 w))
    ∙ (λ j. product_two w i (omega arith) j * (later_word w (suc i) (omega arith) (omega arith) ∙ ap (λ (m : ℕ). get_or w m 0) n) j)

next_degree_lem : (ed : Edition) (w : List ℕ) (i : ℕ) → i < 6 → get_or w 2 0 / product_of (take (suc i) (fold_words ed w)) ≡ next_degree ed w i
next_degree_lem edition1 w i l = ap (λ (x : ℕ). get_or w 2 0 / x) (product_one w (suc i) (omega arith))
next_degree_lem edition2 w i l = ap (λ (x : ℕ). get_or w 2 0 / x) (product_two w i l)

repetitions_rule_lem : (ed : Edition) (w : List ℕ) (i : ℕ) → i < 6 → (repetitions_rule ed w i ≡ true) ↔ RepetitionsRule ed i w
unfolding repetitions_rule
repetitions_rule_lem ed w i l = by_place (ltb i M) refl (eqb i M) refl
  where
    M : ℕ
    M = get_or w 4 0

    t : ℕ
    t = get_or w (6 + i) 0

    d : ℕ
    d = get_or w 2 0 / product_of (take (suc i) (fold_words ed w))

    by_place : (x : Bool) → ltb i M ≡ x → (y : Bool) → eqb i M ≡ y →
        (cond x (between 1 48 t && ltb (t + get_or w 5 0) d) (cond y (between 1 48 t) (eqb t 0)) ≡ true) ↔ RepetitionsRule ed i w
    by_place true a y b =
        let u : i < M = ltb-true i M a in
        let e = both (between 1 48 t) (ltb (t + get_or w 5 0) d) (in_range 1 48 t) (below (t + get_or w 5 0) d) in
        let n = next_degree_lem ed w i l in (
          λ k. (λ v. (e.0 k).0, λ v. subst (λ (x : ℕ). t + get_or w 5 0 < x) n (e.0 k).1, λ v. absurd (omega arith)),
          λ h. e.1 (h.0 (omega arith), subst (λ (x : ℕ). t + get_or w 5 0 < x) (sym n) (h.1 u)),
        )
    by_place false a true b =
        let u : i ≡ M = eqb-true i M b in
        (λ k. (λ v. (in_range 1 48 t).0 k, λ v. absurd (omega arith), λ v. absurd (omega arith)), λ h. (in_range 1 48 t).1 (h.0 (omega arith)))
    by_place false a false b =
        let u : M ≤ i = ltb-false i M a in
        let v : i ≡ M → ⊥ = eqb-false i M b in
        let m : M < i = omega arith in
        (λ k. (λ x. absurd (omega arith), λ x. absurd (omega arith), λ x. eqb-true t 0 k), λ h. eq-eqb t 0 (h.2 m))

later_fold_rule_lem : (w : List ℕ) (i : ℕ) → i < 6 → (later_fold_rule w i ≡ true) ↔ LaterFoldRule i w
unfolding later_fold_rule
later_fold_rule_lem w i l = by_rounds (leb i rounds) refl
  where
    rounds : ℕ
    rounds = get_or w 4 0

    k : ℕ
    k = get_or w (11 + i) 0

    d : ℕ
    d = product_of (take (suc i) (fold_words edition2 w))

    by_rounds : (x : Bool) → leb i rounds ≡ x → (cond x (folding_number w k && leb d (get_or w 2 0)) (eqb k 0) ≡ true) ↔ LaterFoldRule i w
    by_rounds true a =
        let u : i ≤ rounds = leb-true i rounds a in
        let e = both (folding_number w k) (leb d (get_or w 2 0)) (folding_number_lem w k) (most d (get_or w 2 0)) in
        let n = product_two w i l in (
          λ q. (λ v. ((e.0 q).0, subst (λ (x : ℕ). x ≤ get_or w 2 0) n (e.0 q).1), λ v. absurd (omega arith)),
          λ h. let r = h.0 u in e.1 (r.0, subst (λ (x : ℕ). x ≤ get_or w 2 0) (sym n) r.1),
        )
    by_rounds false a =
        let u : rounds < i = leb-false i rounds a in
        (λ q. (λ v. absurd (omega arith), λ v. eqb-true k 0 q), λ h. eq-eqb k 0 (h.1 u))

module _ (ed : Edition) (w : List ℕ) where
  -- the words of an earlier turn keep their rules
  abbrev pub KeptBefore : ℕ → Type 0
  KeptBefore i = (j : ℕ) → j < sheet_length ed → word_turn ed j < word_turn ed i → PlainRule ed w j

  -- tests, and the words whose rules they are
  abbrev Exact : List Bool → List ℕ → Type 0
  Exact [] [] = Unit {0}
  Exact [] (i ∷ is) = ⊥
  Exact (b ∷ bs) [] = ⊥
  Exact (b ∷ bs) (i ∷ is) = (KeptBefore i → (b ≡ true) ↔ PlainRule ed w i) × Exact bs is

  exact_at : (bs : List Bool) (is : List ℕ) → Exact bs is → (j : ℕ) → j < length bs → KeptBefore (get_or is j 0) → (get_or bs j false ≡ true) ↔ PlainRule ed w (get_or is j 0)
  exact_at [] is h j l g = absurd (omega arith)
  exact_at (b ∷ bs) [] h j l g = absurd h
  exact_at (b ∷ bs) (i ∷ is) h zero l g = h.0 g
  exact_at (b ∷ bs) (i ∷ is) h (suc j) l g = exact_at bs is h.1 j (omega arith) g

  -- n0 has its turn before d0
  small_size : KeptBefore 2 → get_or w 1 0 ≤ 4096
  unfolding word_turn
  small_size g = (g 1 (in_sheet ed) (earlier ed)).2
    where
      in_sheet : (x : Edition) → 1 < sheet_length x
      in_sheet edition1 = omega arith
      in_sheet edition2 = omega arith

      earlier : (x : Edition) → word_turn x 1 < word_turn x 2
      earlier edition1 = omega arith
      earlier edition2 = omega arith

  front_exact : (bs : List Bool) (is : List ℕ) → Exact bs is →
      Exact (field_rule w ∷ size_rule w ∷ degree_rule w ∷ fold_rule w ∷ rounds_rule ed w ∷ out_coins_rule w ∷ bs) (0 ∷ 1 ∷ 2 ∷ 3 ∷ 4 ∷ 5 ∷ is)
  unfolding field_rule fold_rule out_coins_rule
  front_exact bs is h = (
    λ g. below (get_or w 0 0) 4,
    (λ g. size_rule_lem w, (λ g. degree_rule_lem w (small_size g), (λ g. folding_number_lem w (get_or w 3 0), (λ g. rounds_rule_lem ed w, (λ g. in_range 1 2 (get_or w 5 0), h))))),
  )

  times_exact : Exact (map (repetitions_rule ed w) (range 0 6)) (range 6 6)
  unfolding range
  times_exact =
      let t = repetitions_rule_lem ed w in
      (λ g. t 0 (omega arith), (λ g. t 1 (omega arith), (λ g. t 2 (omega arith), (λ g. t 3 (omega arith), (λ g. t 4 (omega arith), (λ g. t 5 (omega arith), tt))))))

exact : (ed : Edition) (w : List ℕ) → Exact ed w (sheet_rules ed w) (test_order ed)
unfolding sheet_rules later_rules edition_rule test_order range
exact edition1 w = front_exact edition1 w (map (repetitions_rule edition1 w) (range 0 6)) (range 6 6) (times_exact edition1 w)
exact edition2 w =
    let k = later_fold_rule_lem w in
    let later : Exact edition2 w (later_rules edition2 w ++ map (repetitions_rule edition2 w) (range 0 6)) (range 12 6 ++ range 6 6) =
    (λ g. k 1 (omega arith), (λ g. k 2 (omega arith), (λ g. k 3 (omega arith), (λ g. k 4 (omega arith), (λ g. k 5 (omega arith), (λ g. same (get_or w 17 0) 2, times_exact edition2 w)))))) in
    front_exact edition2 w (later_rules edition2 w ++ map (repetitions_rule edition2 w) (range 0 6)) (range 12 6 ++ range 6 6) later

-- WORD BY WORD: given the words before it, a word keeps its rule exactly when the plain rule holds.
pub rule_exactly : (ed : Edition) (w : List ℕ) (i : ℕ) → i < sheet_length ed → KeptBefore ed w i → KeepsRule ed w i ↔ PlainRule ed w i
rule_exactly ed w i l g =
    let t = word_of_turn ed i l in
    subst (λ (m : ℕ). (get_or (sheet_rules ed w) (word_turn ed i) false ≡ true) ↔ PlainRule ed w m) t.0
    (exact_at ed w (sheet_rules ed w) (test_order ed) (exact ed w) (word_turn ed i) (omega (arith, rules_count ed w, t.1)) (subst (KeptBefore ed w) (sym t.0) g))
