-- A sheet of edition 1 made word by word: the rule of a word looks at that word and those before it, so words that keep their rules so far keep them with any after them.
use Prim.Native.Nat.{ℕ, zero, suc, ◌+◌, ◌-◌, ◌/◌, ◌%◌, ◌^◌, ◌<◌}
use Rattle.std.proofs.Common.{arith, true≢false, sym, ap, ◌∙◌, length-append, eqb-true, eq-eqb, lt-ltb, ltb-true}
use Rattle.std.specs.Prelude.{Bool, true, false, ◌&&◌, List, [], ◌∷◌, ◌++◌, ◌≡◌, length, get_or, take, replicate}
use Rattle.std.proofs.Math.Bool.{cond}
use Rattle.std.proofs.Math.Path.{refl}
use Rattle.std.proofs.Math.Dec.{eqb, ltb, leb}
use Rattle.std.proofs.Math.ListN.{get_or-append}
use Rattle.definition.specs.Field.{known_field, prime_of, spelling_of}
use Rattle.definition.specs.Lists.{product_of, range}
use Rattle.definition.specs.Load.{keep, permits}
use Rattle.definition.specs.Reading.{sheet_test}
use Rattle.definition.specs.Sheet.{between, degree_rule, edition1, field_rule, fold_places, fold_rule, fold_words, folding_number, largest_size, later_rules, most_repetitions, out_coins_rule, power_of_two, repetitions_rule, rounds_rule, sheet_rules, size_rule}
use Rattle.definition.specs.Verdict.{accepted}
use Rattle.list_laws.specs.All.{All}
use Rattle.layouts.specs.PlainRules.{Kept, word_turn}
use Rattle.layouts.proofs.RulesByWord.{sheet_exactly}

pub keep_all : (test : ℕ → Bool) (xs : List ℕ) → All (λ x. test x ≡ true) (keep test xs)
unfolding keep
keep_all test [] = tt
keep_all test (x ∷ xs) = go (test x) refl (keep_all test xs)
  where
    go : (b : Bool) → test x ≡ b → All (λ y. test y ≡ true) (keep test xs) → All (λ y. test y ≡ true) (cond b (x ∷ keep test xs) (keep test xs))
    go true e h = (e, h)
    go false e h = h

-- what is permitted keeps the rule
pub rule_kept : (w : List ℕ) (x : ℕ) → permits w x ≡ true → get_or (sheet_rules edition1 (w ++ (x ∷ []))) (length w) false ≡ true
unfolding permits known_field sheet_rules field_rule
rule_kept [] x e = lt-ltb x 4 (omega (arith, ltb-true x 3 e))
rule_kept (a ∷ w) x e = e

-- the rule of a word looks at that word and those before it alone
module _ (w u : List ℕ) where
  same : (i : ℕ) → i < length w → get_or (w ++ u) i 0 ≡ get_or w i 0
  same i l = get_or-append w u 0 i l

  repetitions_front : (i : ℕ) → 6 + i < length w → repetitions_rule edition1 (w ++ u) i ≡ repetitions_rule edition1 w i
  unfolding repetitions_rule fold_words fold_places
  repetitions_front i l = λ t.
      cond (ltb i (same 4 (omega arith) t))
      (between 1 most_repetitions (same (6 + i) l t) && ltb (same (6 + i) l t + same 5 (omega arith) t) (same 2 (omega arith) t / product_of (take (suc i) (replicate 6 (same 3 (omega arith) t)))))
      (cond (eqb i (same 4 (omega arith) t)) (between 1 most_repetitions (same (6 + i) l t)) (eqb (same (6 + i) l t) 0))

  pub rule_front : (j : ℕ) → j < length w → get_or (sheet_rules edition1 (w ++ u)) j false ≡ get_or (sheet_rules edition1 w) j false
  unfolding sheet_rules later_rules range field_rule size_rule degree_rule fold_rule folding_number rounds_rule out_coins_rule
  rule_front zero l = λ t. ltb (same 0 l t) 4
  rule_front (suc zero) l = λ t. power_of_two (same 1 l t) && between 4 (largest_size (spelling_of (same 0 (omega arith) t))) (same 1 l t) && eqb ((prime_of (same 0 (omega arith) t) - 1) % same 1 l t) 0
  rule_front (suc (suc zero)) l = λ t. power_of_two (same 2 l t) && between 2 (same 1 (omega arith) t / 2) (same 2 l t)
  rule_front (suc (suc (suc zero))) l = λ t. power_of_two (same 3 l t) && between 2 16 (same 3 l t) && leb (same 3 l t) (same 2 (omega arith) t)
  rule_front (suc (suc (suc (suc zero)))) l = λ t. leb (same 4 l t) 5 && leb (same 3 (omega arith) t ^ suc (same 4 l t)) (same 2 (omega arith) t)
  rule_front (suc (suc (suc (suc (suc zero))))) l = λ t. between 1 2 (same 5 l t)
  rule_front (suc (suc (suc (suc (suc (suc zero)))))) l = repetitions_front 0 l
  rule_front (suc (suc (suc (suc (suc (suc (suc zero))))))) l = repetitions_front 1 l
  rule_front (suc (suc (suc (suc (suc (suc (suc (suc zero)))))))) l = repetitions_front 2 l
  rule_front (suc (suc (suc (suc (suc (suc (suc (suc (suc zero))))))))) l = repetitions_front 3 l
  rule_front (suc (suc (suc (suc (suc (suc (suc (suc (suc (suc zero)))))))))) l = repetitions_front 4 l
  rule_front (suc (suc (suc (suc (suc (suc (suc (suc (suc (suc (suc zero))))))))))) l = repetitions_front 5 l
  rule_front (suc (suc (suc (suc (suc (suc (suc (suc (suc (suc (suc (suc j)))))))))))) l = refl

pub kept_more : (w : List ℕ) (x : ℕ) → Kept w → get_or (sheet_rules edition1 (w ++ (x ∷ []))) (length w) false ≡ true → Kept (w ++ (x ∷ []))
kept_more w x k e j l = go (eqb j (length w)) refl
  where
    go : (b : Bool) → eqb j (length w) ≡ b → get_or (sheet_rules edition1 (w ++ (x ∷ []))) j false ≡ true
    go true q = ap (λ (i : ℕ). get_or (sheet_rules edition1 (w ++ (x ∷ []))) i false) (eqb-true j (length w) q) ∙ e
    go false q =
        let less : j < length w = omega (arith, length-append w (x ∷ []), differs) in
        rule_front w (x ∷ []) j less ∙ k j less
      where
        differs : j ≡ length w → ⊥
        differs z = true≢false (sym (eq-eqb j (length w) z) ∙ q)

-- 12 words that keep their rules are a sheet without a fault
pub kept_passes : (w : List ℕ) → length w ≡ 12 → Kept w → sheet_test edition1 w ≡ accepted
unfolding word_turn
kept_passes w e k = (sheet_exactly edition1 w).1 (λ i l. k i (omega arith))
