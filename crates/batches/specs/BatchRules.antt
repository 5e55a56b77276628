-- The rules of refusal 15 in plain numbers, and what the numbers of a batch are at most.
use Rattle.std.specs.Prelude.{ℕ, ◌*◌, ◌≤◌, Bool, true, false, List, [], ◌∷◌, map, ◌≡◌, length, take}
use Rattle.std.proofs.Common.{suc-mul, arith}
use Rattle.std.proofs.Math.Bool.{not}
use borrow.Author.Tests.{leb-true, not-false}
use Rattle.batch_definition.specs.Batch.{batch_rules, batch_test, most_entries, sum_of}
use Rattle.definition.specs.Field.{Spelling, four, one, word_count}
use Rattle.definition.specs.Sheet.{Sheet, between}
use Rattle.definition.specs.Verdict.{accepted}
use Rattle.list_laws.specs.All.{All, all_in_map, all_map}
use Rattle.list_laws.specs.Booleans.{and_true}
use Rattle.layouts.specs.SheetRules.{between_true}
use Rattle.layouts.specs.Tests.{all_false}

-- so many entries are at most 8,192 words
pub entry_words_lem : (σ : Spelling) (n : ℕ) → n ≤ most_entries σ → word_count σ n ≤ 8192
unfolding most_entries word_count
entry_words_lem one n l = l
entry_words_lem four n l = omega arith

-- bounds that are each at most d
pub sum_most : (d : ℕ) (bounds : List ℕ) → All (λ b. (1 ≤ b) × (b ≤ d)) bounds → sum_of bounds ≤ length bounds * d
unfolding sum_of
sum_most d [] h = omega arith
sum_most d (b ∷ bs) h = omega (arith, h.0.1, sum_most d bs h.1, suc-mul (length bs) d)

module _ (h : Sheet) (count : ℕ) (bounds : List ℕ) (passed : batch_test h count bounds ≡ accepted) where
  all_rules : All (λ (b : Bool). b ≡ true) (batch_rules h count bounds)
  unfolding batch_test
  all_rules =
      let rules = batch_rules h count bounds in
      all_map rules (all_in_map (λ (b : Bool). b ≡ false) not rules (all_false 15 0 (map not rules) passed)) (λ b e. not-false b e)

  pub tables_few : (1 ≤ count) × (count ≤ 8)
  unfolding batch_rules
  tables_few = between_true 1 8 count (and_true (between 1 8 count) _ all_rules.0).0

  pub entries_few : count * h.size ≤ most_entries h.spelling
  unfolding batch_rules
  entries_few = leb-true (count * h.size) (most_entries h.spelling) (and_true (between 1 8 count) _ all_rules.0).1

  pub bounds_within : All (λ b. (1 ≤ b) × (b ≤ h.degree)) (take count bounds)
  unfolding batch_rules
  bounds_within =
      all_map (take count bounds) (all_in_map (λ (t : Bool). t ≡ true) (between 1 h.degree) (take count bounds) all_rules.1) (λ b e. between_true 1 h.degree b e)
