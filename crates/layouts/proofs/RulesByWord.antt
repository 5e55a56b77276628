-- The rules by word: each word of a sheet has its turn, and no rule is broken exactly when each word keeps its own.
use Rattle.std.specs.Prelude.{ℕ, zero, suc, ◌<◌, Bool, true, ◌&&◌, List, map, ◌↔◌, ◌≡◌, refl, eqb, ltb, length, get_or}
use Rattle.std.proofs.Math.Decide.{dec_lt}
use Rattle.std.proofs.Common.{arith, sym, ◌∙◌, subst, eqb-true, ltb-true}
use Rattle.std.proofs.Math.Bool.{false, not}
use Rattle.std.proofs.Math.Path.{ap}
use Rattle.std.proofs.lemmas.List.{length-map}
use Rattle.definition.specs.Lists.{range}
use Rattle.definition.specs.Reading.{sheet_test}
use Rattle.definition.specs.Sheet.{Edition, edition1, edition2, later_rules, sheet_length, sheet_rules, test_order}
use Rattle.definition.specs.Verdict.{accepted}
use Rattle.list_laws.specs.All.{all_places, at_place}
use Rattle.list_laws.specs.Booleans.{and_true}
use Rattle.list_laws.specs.Lists.{get_d_map}
use Rattle.layouts.specs.PlainRules.{KeepsRule, word_turn}
use Rattle.layouts.specs.SheetRules.{rules_hold}
use Rattle.layouts.specs.Tests.{at_none, none_found}

-- a test of each number below n, in one
holds : (ℕ → Bool) → ℕ → Bool
holds f zero = true
holds f (suc n) = f n && holds f n

each : (f : ℕ → Bool) (n : ℕ) → holds f n ≡ true → (i : ℕ) → i < n → f i ≡ true
unfolding holds
each f zero e i l = absurd (omega arith)
each f (suc n) e i l = let b = and_true (f n) (holds f n) e in go (dec_lt i n) b.0 (each f n b.1 i)
  where
    go : Dec (i < n) → f n ≡ true → (i < n → f i ≡ true) → f i ≡ true
    go (yes u) h r = r u
    go (no u) h r = let q : n ≡ i = omega arith in subst (λ (j : ℕ). f j ≡ true) q h

-- word and turn, each found from the other
turn_test : Edition → ℕ → Bool
turn_test ed i = eqb (get_or (test_order ed) (word_turn ed i) 0) i && ltb (word_turn ed i) (sheet_length ed)

word_test : Edition → ℕ → Bool
word_test ed j = eqb (word_turn ed (get_or (test_order ed) j 0)) j && ltb (get_or (test_order ed) j 0) (sheet_length ed)

turns_tested : (ed : Edition) → holds (turn_test ed) (sheet_length ed) ≡ true
unfolding holds turn_test test_order word_turn range
turns_tested edition1 = refl
turns_tested edition2 = refl

words_tested : (ed : Edition) → holds (word_test ed) (sheet_length ed) ≡ true
unfolding holds word_test test_order word_turn range
words_tested edition1 = refl
words_tested edition2 = refl

pub word_of_turn : (ed : Edition) (i : ℕ) → i < sheet_length ed → (get_or (test_order ed) (word_turn ed i) 0 ≡ i) × (word_turn ed i < sheet_length ed)
unfolding turn_test
word_of_turn ed i l =
    let h = and_true (eqb (get_or (test_order ed) (word_turn ed i) 0) i) _ (each (turn_test ed) (sheet_length ed) (turns_tested ed) i l) in
    (eqb-true (get_or (test_order ed) (word_turn ed i) 0) i h.0, ltb-true (word_turn ed i) (sheet_length ed) h.1)

pub turn_of_word : (ed : Edition) (j : ℕ) → j < sheet_length ed → (word_turn ed (get_or (test_order ed) j 0) ≡ j) × (get_or (test_order ed) j 0 < sheet_length ed)
unfolding word_test
turn_of_word ed j l =
    let h = and_true (eqb (word_turn ed (get_or (test_order ed) j 0)) j) _ (each (word_test ed) (sheet_length ed) (words_tested ed) j l) in
    (eqb-true (word_turn ed (get_or (test_order ed) j 0)) j h.0, ltb-true (get_or (test_order ed) j 0) (sheet_length ed) h.1)

-- so no two words have one turn
pub turns_differ : (ed : Edition) (i j : ℕ) → i < sheet_length ed → j < sheet_length ed → word_turn ed i ≡ word_turn ed j → i ≡ j
turns_differ ed i j li lj e = sym (word_of_turn ed i li).0 ∙ ap (λ (t : ℕ). get_or (test_order ed) t 0) e ∙ (word_of_turn ed j lj).0

pub rules_count : (ed : Edition) (w : List ℕ) → length (sheet_rules ed w) ≡ sheet_length ed
unfolding sheet_rules later_rules range
rules_count edition1 w = refl
rules_count edition2 w = refl

pub rules_counted : (ed : Edition) → length (test_order ed) ≡ sheet_length ed
unfolding test_order range
rules_counted edition1 = refl
rules_counted edition2 = refl

-- the test at each turn, and that of each word
module _ (ed : Edition) (w : List ℕ) where
  pub rules_length : length (map not (sheet_rules ed w)) ≡ sheet_length ed
  rules_length = length-map (sheet_rules ed w) not ∙ rules_count ed w

  pub rule_at : (j : ℕ) → j < sheet_length ed → get_or (map not (sheet_rules ed w)) j false ≡ not (get_or (sheet_rules ed w) j false)
  rule_at j l = get_d_map not (sheet_rules ed w) false false j (omega (arith, rules_count ed w))

  pub rule_of_word : (j : ℕ) → j < sheet_length ed → get_or (map not (sheet_rules ed w)) j false ≡ not (get_or (sheet_rules ed w) (word_turn ed (get_or (test_order ed) j 0)) false)
  rule_of_word j l = rule_at j l ∙ ap (λ (t : ℕ). not (get_or (sheet_rules ed w) t false)) (sym (turn_of_word ed j l).0)

  -- no rule is broken exactly when each word keeps its own
  pub sheet_exactly : (sheet_test ed w ≡ accepted) ↔ ((i : ℕ) → i < sheet_length ed → KeepsRule ed w i)
  unfolding sheet_test
  sheet_exactly = (
    λ e i l. at_place (λ (b : Bool). b ≡ true) (sheet_rules ed w) false (rules_hold ed w e) (word_turn ed i) (omega (arith, rules_count ed w, (word_of_turn ed i l).1)),
    λ h. at_none 3 _ (none_found (test_order ed) (map not (sheet_rules ed w)) (all_places (λ (b : Bool). b ≡ false) (map not (sheet_rules ed w)) false
        (λ j l. let u : j < sheet_length ed = omega (arith, rules_length) in rule_of_word j u ∙ ap not (h (get_or (test_order ed) j 0) (turn_of_word ed j u).1)))),
  )
