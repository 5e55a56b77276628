-- Refusal 3 exactly: at the first word, in the order of the tests, that breaks its rule; and what the test looks at.
use Rattle.std.specs.Prelude.{ℕ, zero, suc, ◌<◌, true, false, not, List, [], ◌∷◌, ◌++◌, map, ◌↔◌, refl, get_or, replicate, take}
use Rattle.std.proofs.Math.Decide.{dec_lt}
use Rattle.std.proofs.Common.{arith, true≢false, sym, ◌∙◌, subst, get_or-take}
use Rattle.std.proofs.Math.Option.{Option, none, some}
use Rattle.std.proofs.Math.Path.{◌≡◌, ap}
use Rattle.std.proofs.lemmas.Bool.{not-false}
use Rattle.definition.specs.Lists.{first_of, product_of, range}
use Rattle.definition.specs.Reading.{sheet_test}
use Rattle.definition.specs.Sheet.{Edition, degree_rule, edition1, edition2, edition_rule, field_rule, fold_places, fold_rule, fold_words, folding_number, later_fold_rule, later_rules, out_coins_rule, repetitions_rule, rounds_rule, sheet_length, sheet_rules, size_rule, test_order}
use Rattle.definition.specs.Verdict.{accepted, refuse_at, refused}
use Rattle.list_laws.specs.First.{FirstAt, first_of_lem}
use Rattle.list_laws.specs.Zeros.{zeros}
use Rattle.layouts.specs.PlainRules.{KeepsRule, word_turn}
use Rattle.layouts.proofs.RulesByWord.{rule_at, rules_counted, rules_length, turn_of_word, turns_differ, word_of_turn}
use Rattle.layouts.specs.Tests.{at_passes}
use Rattle.sheet_laws.proofs.EachRule.{KeptBefore, rule_exactly}
use Rattle.sheet_laws.specs.WordRules.{FirstBroken, PlainRule}

module _ (ed : Edition) (w : List ℕ) where
  -- what a place found says: of a word, that it is the first by its turn that breaks its rule; of none, that each word keeps its own
  abbrev pub Found : Option ℕ → Type 0
  Found none = (i : ℕ) → i < sheet_length ed → KeepsRule ed w i
  Found (some p) = (p < sheet_length ed) × (KeepsRule ed w p → ⊥) × ((i : ℕ) → i < sheet_length ed → word_turn ed i < word_turn ed p → KeepsRule ed w i)

  abbrev place : Option ℕ
  place = first_of (test_order ed) (map not (sheet_rules ed w))

  found : Found place
  found = go place (first_of_lem (test_order ed) (map not (sheet_rules ed w)) (omega (arith, rules_length ed w, rules_counted ed)))
    where
      -- the test of a word, at its turn, is false: it keeps its rule
      kept : (i : ℕ) → i < sheet_length ed → get_or (map not (sheet_rules ed w)) (word_turn ed i) false ≡ false → KeepsRule ed w i
      kept i l e = not-false _ (sym (rule_at ed w (word_turn ed i) (word_of_turn ed i l).1) ∙ e)

      go : (o : Option ℕ) → FirstAt (λ j. get_or (test_order ed) j 0) (map not (sheet_rules ed w)) o → Found o
      go none h = λ i l. kept i l (h (word_turn ed i) (omega (arith, rules_length ed w, (word_of_turn ed i l).1)))
      go (some p) h =
          let u : h.0 < sheet_length ed = omega (arith, h.2, rules_length ed w) in
          let t = turn_of_word ed h.0 u in
          let turn : word_turn ed p ≡ h.0 = ap (word_turn ed) h.1 ∙ t.0 in (
            subst (λ (x : ℕ). x < sheet_length ed) (sym h.1) t.1,
            λ k. true≢false (sym h.3 ∙ rule_at ed w h.0 u ∙ ap not (subst (λ (j : ℕ). get_or (sheet_rules ed w) j false ≡ true) turn k)),
            λ i l b. kept i l (h.4 (word_turn ed i) (omega (arith, turn))),
          )

  -- words up to a turn that keep the definition's rules keep the plain ones
  plain_up_to : (n : ℕ) → ((i : ℕ) → i < sheet_length ed → word_turn ed i < n → KeepsRule ed w i) → (i : ℕ) → i < sheet_length ed → word_turn ed i < n → PlainRule ed w i
  plain_up_to zero h i l u = absurd (omega arith)
  plain_up_to (suc n) h i l u =
      (rule_exactly ed w i l (λ j m b. plain_up_to n (λ k v c. h k v (omega arith)) j m (omega arith))).0 (h i l u)

  first_plain : (p : ℕ) → Found (some p) → FirstBroken ed w p
  first_plain p h =
      let before : KeptBefore ed w p = plain_up_to (word_turn ed p) h.2 in
      record { word = h.0; broken = λ k. h.1 ((rule_exactly ed w p h.0 before).1 k); kept_before = before }

  all_plain : Found none → (i : ℕ) → i < sheet_length ed → PlainRule ed w i
  all_plain h i l = plain_up_to (sheet_length ed) (λ j m u. h j m) i l (word_of_turn ed i l).1

  -- and the other way
  all_found_lem : (o : Option ℕ) → Found o → ((i : ℕ) → i < sheet_length ed → PlainRule ed w i) → o ≡ none
  all_found_lem none h k = refl
  all_found_lem (some p) h k = absurd (h.1 ((rule_exactly ed w p h.0 (λ j m b. k j m)).1 (k p h.0)))

  first_found : (o : Option ℕ) (p : ℕ) → Found o → FirstBroken ed w p → o ≡ some p
  first_found none p h f = absurd (f.broken (all_plain h p f.word))
  first_found (some q) p h f = ap some (go (dec_lt (word_turn ed q) (word_turn ed p)) (dec_lt (word_turn ed p) (word_turn ed q)))
    where
      e : FirstBroken ed w q
      e = first_plain q h

      go : Dec (word_turn ed q < word_turn ed p) → Dec (word_turn ed p < word_turn ed q) → q ≡ p
      go (yes l) d = absurd (e.broken (f.kept_before q e.word l))
      go (no l) (yes m) = absurd (f.broken (e.kept_before p f.word m))
      go (no l) (no m) = turns_differ ed q p e.word f.word (omega arith)

  -- the first word that breaks the definition's rule is the first that breaks the plain one
  pub first_exactly : (p : ℕ) → Found (some p) ↔ FirstBroken ed w p
  first_exactly p = (
    first_plain p,
    λ f. (
      f.word,
      λ k. f.broken ((rule_exactly ed w p f.word f.kept_before).0 k),
      λ i l b. (rule_exactly ed w i l (λ j m c. f.kept_before j m (omega arith))).1 (f.kept_before i l b),
    ),
  )

  -- what the outcome says of the place found
  place_of : (o : Option ℕ) (n p : ℕ) → refuse_at 3 o ≡ refused n p → (n ≡ 3) × (o ≡ some p)
  unfolding refuse_at
  place_of none n p e = let z : ◌≡◌ {A = ℕ} 0 1 = cc in absurd (omega arith)
  place_of (some q) n p e =
      let a : 3 ≡ n = cc in
      let b : q ≡ p = cc in
      (sym a, ap some b)

  pub refused_exactly : (p : ℕ) → (sheet_test ed w ≡ refused 3 p) ↔ FirstBroken ed w p
  unfolding sheet_test refuse_at
  refused_exactly p = (
    λ e. first_plain p (subst Found {x = place} (place_of place 3 p e).1 found),
    λ f. ap (refuse_at 3) (first_found place p found f),
  )

  pub accepted_exactly : (sheet_test ed w ≡ accepted) ↔ ((i : ℕ) → i < sheet_length ed → PlainRule ed w i)
  unfolding sheet_test refuse_at
  accepted_exactly = (
    λ e. all_plain (subst Found {x = place} (at_passes 3 place e) found),
    λ k. ap (refuse_at 3) (all_found_lem place found k),
  )

  pub number_three : (n p : ℕ) → sheet_test ed w ≡ refused n p → n ≡ 3
  unfolding sheet_test
  number_three n p e = (place_of place n p e).0

-- the test looks at the sheet's words alone, and a word that is not there counts as 0
pub same_words_lem : (ed : Edition) (v w : List ℕ) → ((i : ℕ) → i < sheet_length ed → get_or v i 0 ≡ get_or w i 0) → sheet_test ed v ≡ sheet_test ed w
unfolding sheet_test sheet_rules later_rules test_order field_rule size_rule degree_rule fold_rule folding_number rounds_rule out_coins_rule repetitions_rule later_fold_rule edition_rule fold_words fold_places product_of range
same_words_lem edition1 v w s = λ t. sheet_test edition1
    (s 0 (omega arith) t ∷ s 1 (omega arith) t ∷ s 2 (omega arith) t ∷ s 3 (omega arith) t ∷ s 4 (omega arith) t ∷ s 5 (omega arith) t
    ∷ s 6 (omega arith) t ∷ s 7 (omega arith) t ∷ s 8 (omega arith) t ∷ s 9 (omega arith) t ∷ s 10 (omega arith) t ∷ s 11 (omega arith) t ∷ [])
same_words_lem edition2 v w s = λ t. sheet_test edition2
    (s 0 (omega arith) t ∷ s 1 (omega arith) t ∷ s 2 (omega arith) t ∷ s 3 (omega arith) t ∷ s 4 (omega arith) t ∷ s 5 (omega arith) t
    ∷ s 6 (omega arith) t ∷ s 7 (omega arith) t ∷ s 8 (omega arith) t ∷ s 9 (omega arith) t ∷ s 10 (omega arith) t ∷ s 11 (omega arith) t
    ∷ s 12 (omega arith) t ∷ s 13 (omega arith) t ∷ s 14 (omega arith) t ∷ s 15 (omega arith) t ∷ s 16 (omega arith) t ∷ s 17 (omega arith) t ∷ [])

-- so zeros after the words, and other words after the sheet, change nothing
zero_after : (n i : ℕ) → get_or (zeros n) i 0 ≡ 0
zero_after zero i = refl
zero_after (suc n) zero = refl
zero_after (suc n) (suc i) = zero_after n i

zeros_after : (w : List ℕ) (n i : ℕ) → get_or (w ++ replicate n 0) i 0 ≡ get_or w i 0
zeros_after [] n i = zero_after n i
zeros_after (x ∷ w) n zero = refl
zeros_after (x ∷ w) n (suc i) = zeros_after w n i

pub missing_words : (ed : Edition) (w : List ℕ) (n : ℕ) → sheet_test ed (w ++ replicate n 0) ≡ sheet_test ed w
missing_words ed w n = same_words_lem ed (w ++ replicate n 0) w (λ i l. zeros_after w n i)

pub later_words_lem : (ed : Edition) (w : List ℕ) → sheet_test ed (take (sheet_length ed) w) ≡ sheet_test ed w
later_words_lem ed w = same_words_lem ed (take (sheet_length ed) w) w (λ i l. get_or-take (sheet_length ed) w i 0 l)

-- the words in the order of their turns
pub order_1 : (i : ℕ) → word_turn edition1 i ≡ i
unfolding word_turn
order_1 i = refl

pub order_2 : map (word_turn edition2) (0 ∷ 1 ∷ 2 ∷ 3 ∷ 4 ∷ 5 ∷ 12 ∷ 13 ∷ 14 ∷ 15 ∷ 16 ∷ 17 ∷ 6 ∷ 7 ∷ 8 ∷ 9 ∷ 10 ∷ 11 ∷ []) ≡ range 0 18
unfolding word_turn range
order_2 = refl
