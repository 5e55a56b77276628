-- The first broken word: of rules that are tested by number, and of parts one after the other. Assumes nothing.
use Prim.Native.Nat.{ℕ, suc, ◌+◌, ◌-◌, ◌≤◌, ◌<◌}
use native.Mathlib.Numerals.{add-one}
use native.Mathlib.Omega.{arith}
use mathlib.Core.Bool.{Bool, true, false, not}
use mathlib.Core.List.{List, [], ◌∷◌, ◌++◌, map}
use mathlib.Core.Option.{Option, none, some}
use mathlib.Core.Path.{◌≡◌, refl, sym, ap, ◌∙◌, subst}
use lib.ListN.{length, get_or}
use borrow.Author.Tests.{eq-eqb, ne_eqb}
use Rattle.definition.specs.Lists.{first_of, range}
use Rattle.definition.specs.Sheet.{Edition, edition1, edition2, edition_rule, later_fold_rule, later_rules, repetitions_rule, sheet_length, sheet_rules, test_order}
use Rattle.edition.specs.declared.Edition as code
use Rattle.edition.specs.declared.Edition.TheVariants.{One, Two}
use Rattle.edition.specs.Meaning.{edition_of}
use Rattle.sheet.specs.Rules.{Shape, front_rules, later_words}

-- The rules f i to f 5, each of word at + its number: the first that is broken.
abbrev pub broken_from : ℕ → (ℕ → Bool) → ℕ → Option ℕ
broken_from at f i = first_of (range (at + i) (6 - i)) (map not (map f (range i (6 - i))))

one_more : (i : ℕ) → i < 6 → 6 - i ≡ suc (6 - (i + 1))
one_more i h = let e : 6 - i ≡ (6 - (i + 1)) + 1 = omega arith in e ∙ add-one _

module _ (at : ℕ) (f : ℕ → Bool) (i : ℕ) where
  pub broken_here : i < 6 → f i ≡ false → broken_from at f i ≡ some (at + i)
  unfolding first_of range
  broken_here h e = rw (one_more i h) (simp e)

  pub broken_next : i < 6 → f i ≡ true → broken_from at f i ≡ broken_from at f (i + 1)
  unfolding first_of range
  broken_next h e =
      let s : suc (at + i) ≡ at + (i + 1) = omega arith in
      rw (one_more i h) (simp e (λ j. first_of (range (s j) (6 - (i + 1))) (map not (map f (range (sym (add-one i) j) (6 - (i + 1)))))))

  pub broken_none : 6 ≤ i → broken_from at f i ≡ none
  unfolding first_of range
  broken_none h = let e : 6 - i ≡ 0 = omega arith in rw e

-- found in the first part, and found in none of it
found_first : (ns ms : List ℕ) (xs ys : List Bool) {place : ℕ} → some place ≡ first_of ns xs → some place ≡ first_of (ns ++ ms) (xs ++ ys)
unfolding first_of
found_first [] ms xs ys e = let z : ◌≡◌ {A = ℕ} 0 1 = cc in absurd (omega arith)
found_first (n ∷ ns) ms [] ys e = let z : ◌≡◌ {A = ℕ} 0 1 = cc in absurd (omega arith)
found_first (n ∷ ns) ms (true ∷ xs) ys e = e
found_first (n ∷ ns) ms (false ∷ xs) ys e = found_first ns ms xs ys e

none_first : (ns ms : List ℕ) (xs ys : List Bool) → length ns ≡ length xs → none ≡ first_of ns xs → first_of ms ys ≡ first_of (ns ++ ms) (xs ++ ys)
unfolding first_of
none_first [] ms [] ys l e = refl
none_first [] ms (a ∷ xs) ys l e = absurd (omega arith)
none_first (n ∷ ns) ms [] ys l e = absurd (omega arith)
none_first (n ∷ ns) ms (true ∷ xs) ys l e = let z : ◌≡◌ {A = ℕ} 0 1 = cc in absurd (omega arith)
none_first (n ∷ ns) ms (false ∷ xs) ys l e = none_first ns ms xs ys (omega arith) e

-- words 12 to 17 of edition 2: the folding numbers, then the edition's number
module _ (w : List ℕ) where
  abbrev fold_tests : List Bool
  fold_tests = map not (map (later_fold_rule w) (range 1 5))

  abbrev pub first_later : Option ℕ
  first_later = first_of (range 12 6) (map not (later_rules edition2 w))

  later_parts : first_of (range 12 5 ++ (17 ∷ [])) (fold_tests ++ (not (edition_rule w) ∷ [])) ≡ first_later
  unfolding range later_rules
  later_parts = refl

  pub in_folds : {place : ℕ} → some place ≡ first_of (range 12 5) (map not (map (later_fold_rule w) (range 1 5))) → some place ≡ first_of (range 12 6) (map not (later_rules edition2 w))
  in_folds e = found_first (range 12 5) (17 ∷ []) fold_tests (not (edition_rule w) ∷ []) e ∙ later_parts

  pub after_folds : none ≡ first_of (range 12 5) (map not (map (later_fold_rule w) (range 1 5))) → {t : Option ℕ} → t ≡ first_of (17 ∷ []) (not (edition_rule w) ∷ []) →
      t ≡ first_of (range 12 6) (map not (later_rules edition2 w))
  unfolding range
  after_folds e q = q ∙ none_first (range 12 5) (17 ∷ []) fold_tests (not (edition_rule w) ∷ []) refl e ∙ later_parts

  pub other_number : (get_or w 17 0 ≡ 2 → ⊥) → some 17 ≡ first_of (17 ∷ []) (not (edition_rule w) ∷ [])
  unfolding first_of edition_rule
  other_number h = sym (rw (ne_eqb (get_or w 17 0) 2 h))

  pub right_number : get_or w 17 0 ≡ 2 → none ≡ first_of (17 ∷ []) (not (edition_rule w) ∷ [])
  unfolding first_of edition_rule
  right_number h = sym (rw (eq-eqb (get_or w 17 0) 2 h))

-- the words past word 11, by the edition
module _ (e : code.Edition) (w : List ℕ) where
  pub none_later : e ≡ One → none ≡ first_of (later_words (edition_of e)) (map not (later_rules (edition_of e) w))
  unfolding edition_of later_words first_of
  none_later q = sym (rw q)

  pub in_two : e ≡ Two → (sheet_length (edition_of e) ≤ length w) × Shape (edition_of e) w → (18 ≤ length w) × Shape edition2 w
  unfolding edition_of
  in_two q h = subst (λ (x : code.Edition). (sheet_length (edition_of x) ≤ length w) × Shape (edition_of x) w) q h

  pub later_two : e ≡ Two → {t : Option ℕ} → t ≡ first_of (range 12 6) (map not (later_rules edition2 w)) → t ≡ first_of (later_words (edition_of e)) (map not (later_rules (edition_of e) w))
  unfolding edition_of later_words
  later_two q h = h ∙ ap (λ (x : code.Edition). first_of (later_words (edition_of x)) (map not (later_rules (edition_of x) w))) (sym q)

-- the whole sheet: words 0 to 5, those past word 11, words 6 to 11
sheet_parts : (ed : Edition) (w : List ℕ) →
    first_of (range 0 6 ++ (later_words ed ++ range 6 6)) (map not (front_rules ed w) ++ (map not (later_rules ed w) ++ map not (map (repetitions_rule ed w) (range 0 6))))
    ≡ first_of (test_order ed) (map not (sheet_rules ed w))
unfolding range later_words later_rules sheet_rules test_order
sheet_parts edition1 w = refl
sheet_parts edition2 w = refl

pub later_count_lem : (ed : Edition) (w : List ℕ) → length (later_words ed) ≡ length (map not (later_rules ed w))
unfolding range later_words later_rules
later_count_lem edition1 w = refl
later_count_lem edition2 w = refl

module _ (ed : Edition) (w : List ℕ) where
  abbrev later_tests : List Bool
  later_tests = map not (later_rules ed w)

  abbrev last_tests : List Bool
  last_tests = map not (map (repetitions_rule ed w) (range 0 6))

  pub in_front : {place : ℕ} → some place ≡ first_of (range 0 6) (map not (front_rules ed w)) → some place ≡ first_of (test_order ed) (map not (sheet_rules ed w))
  in_front e = found_first (range 0 6) (later_words ed ++ range 6 6) (map not (front_rules ed w)) (later_tests ++ last_tests) e ∙ sheet_parts ed w

  module _ (front : none ≡ first_of (range 0 6) (map not (front_rules ed w))) where
    after_front : first_of (later_words ed ++ range 6 6) (map not (later_rules ed w) ++ map not (map (repetitions_rule ed w) (range 0 6))) ≡ first_of (test_order ed) (map not (sheet_rules ed w))
    unfolding range
    after_front = none_first (range 0 6) (later_words ed ++ range 6 6) (map not (front_rules ed w)) (later_tests ++ last_tests) refl front ∙ sheet_parts ed w

    pub in_later : {place : ℕ} → some place ≡ first_of (later_words ed) (map not (later_rules ed w)) → some place ≡ first_of (test_order ed) (map not (sheet_rules ed w))
    in_later e = found_first (later_words ed) (range 6 6) later_tests last_tests e ∙ after_front

    pub in_last : none ≡ first_of (later_words ed) (map not (later_rules ed w)) → {t : Option ℕ} → t ≡ first_of (range 6 6) (map not (map (repetitions_rule ed w) (range 0 6))) →
        t ≡ first_of (test_order ed) (map not (sheet_rules ed w))
    in_last e q = q ∙ none_first (later_words ed) (range 6 6) later_tests last_tests (later_count_lem ed w) e ∙ after_front
