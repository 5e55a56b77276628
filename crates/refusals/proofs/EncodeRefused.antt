-- Encode's tests in their order, each against what it is to be a fault of it.
use Prim.Native.Nat.{ℕ, zero, suc, ◌+◌, ◌≤◌, ◌<◌}
use Rattle.std.proofs.Common.{zero-add, arith, sym, ap, ◌∙◌, subst, le-leb, leb-true}
use Rattle.std.specs.Prelude.{Bool, true, false, not, ◌↔◌, ◌≡◌, refl, eqb, ltb, length}
use mathlib.Core.List.{List, map, zip_with}
use Rattle.std.proofs.Math.ListN.{get_or, get_or-eq_default}
use Rattle.definition.specs.Lists.{first_of, first_true}
use Rattle.definition.specs.Prove.{coefficients_test, done, encode, encode_tests, input_range_test, output_test, refusal, sheet_length_test}
use Rattle.definition.specs.Prover.{table_words}
use Rattle.definition.specs.Reading.{out_of_range, sheet_test}
use Rattle.definition.specs.Sheet.{Sheet, edition1, sheet_of, sheet_rules, test_order}
use Rattle.definition.specs.Verdict.{Outcome, ◌then◌, accepted, refuse_at, refuse_if}
use Rattle.list_laws.specs.First.{first_of_lem}
use Rattle.layouts.specs.Levels.{words_for}
use Rattle.layouts.proofs.RulesByWord.{rules_counted, rules_length}
use Rattle.completeness.proofs.EncodeExactly.{coefficient_at, kinds, tested_length}
use Rattle.completeness.specs.Faults.{NoFault, turn_of}
use Rattle.completeness.specs.FirstFaults.{exact_at, exact_if, exact_places}
use Rattle.completeness.proofs.VerifyExactly.{rule_complete, rule_sound, rules_rise, then_accepted}
use Rattle.refusals.specs.CountsAndRules.{count_complete, count_sound, counted, output_complete, output_sound}
use Rattle.refusals.proofs.InOrder.{ExactRow, FaultOf, answer_done, answer_refused, named, named_at, named_if, next, number_of, own, place_turn}
use Rattle.refusals.specs.InputFaults.{CoefficientFault, CountFault, FirstFailure, NoFailure, Test, encode_row, test, test_at}

module _ (w f output : List ℕ) where
  abbrev h : Sheet
  h = sheet_of edition1 w

  abbrev given : ℕ
  given = words_for (sheet_of edition1 w) (sheet_of edition1 w).degree

  abbrev due : ℕ
  due = words_for (sheet_of edition1 w) (sheet_of edition1 w).size

  abbrev rules : List Bool
  rules = map not (sheet_rules edition1 w)

  abbrev ranges : List Bool
  ranges = zip_with (out_of_range (sheet_of edition1 w)) (kinds w f output) f

  abbrev P : ℕ → (ℕ → Type 0)
  P = FaultOf edition1 (encode_row w f output)

  abbrev T : ℕ → ℕ → ℕ
  T = place_turn edition1 (encode_row w f output)

  -- the tests, called by their turns
  abbrev row : Outcome
  row = refuse_if 0 0 (not (eqb (length w) 12)) then refuse_at 1 (first_of (test_order edition1) (map not (sheet_rules edition1 w)))
      then refuse_if 2 1 (not (eqb (length f) given)) then refuse_at 3 (first_true 0 ranges) then refuse_if 4 due (ltb (length output) due) then accepted

  abbrev tests : Outcome
  tests = sheet_length_test edition1 w then sheet_test edition1 w then encode_tests (sheet_of edition1 w) f output

  same : named (number_of edition1 (encode_row w f output)) row ≡ tests
  unfolding encode_tests sheet_length_test sheet_test coefficients_test input_range_test output_test
  same =
      let N = number_of edition1 (encode_row w f output) in
      next N _ _ _ _ (named_if N 0 0 _) (next N _ _ _ _ (named_at N 1 _) (next N _ _ _ _ (named_if N 2 1 _) (next N _ _ _ _ (named_at N 3 _)
      (ap (named N) (sym (then_accepted (refuse_if 4 due (ltb (length output) due)))) ∙ named_if N 4 due _))))

  module _ (many : (q : ℕ) → CountFault 1 given f q → ⊥) where
    n : length f ≡ words_for (sheet_of edition1 w) (get_or w 2 0)
    unfolding sheet_of
    n = counted 1 given f many

    range_sound : (j : ℕ) → j < length ranges → get_or ranges j false ≡ true → CoefficientFault h f (0 + j)
    range_sound j l e =
        let u : j < length f = omega (arith, tested_length w f output n) in
        subst (CoefficientFault h f) (sym (zero-add j)) (u, leb-true h.prime (get_or f j 0) (sym (coefficient_at w f output j n u) ∙ e))

    range_complete : (q : ℕ) → CoefficientFault h f q → (j : ℕ) × (q ≡ 0 + j) × (j < length ranges) × (get_or ranges j false ≡ true)
    range_complete q p = (q, sym (zero-add q), omega (arith, p.0, tested_length w f output n), coefficient_at w f output q n p.0 ∙ le-leb h.prime (get_or f q 0) p.1)

  none_past : (t q : ℕ) → 6 ≤ suc t → P t q → ⊥
  none_past t q l p = subst (λ (x : Test). x.Fault q) (get_or-eq_default (encode_row w f output) (test 0 NoFault) {n = t} (omega arith)) p

  exact : ExactRow edition1 (encode_row w f output) 1 row
  unfolding turn_of
  exact =
      exact_if P T suc own 0 0 (not (eqb (length w) 12)) _ (count_sound 0 12 w) (count_complete 0 12 w) (λ n₀.
      exact_places P T suc own 1 (λ j. get_or (test_order edition1) j 0) rules (first_of (test_order edition1) rules) _
      (first_of_lem (test_order edition1) rules (omega (arith, rules_length edition1 w, rules_counted edition1))) (rules_rise edition1 w) (rule_sound edition1 w) (rule_complete edition1 w) (λ n₁.
      exact_if P T suc own 2 1 (not (eqb (length f) given)) _ (count_sound 1 given f) (count_complete 1 given f) (λ n₂.
      exact_at P T suc own 3 0 ranges _ (λ q. refl) (range_sound n₂) (range_complete n₂) (λ n₃.
      exact_if P T suc own 4 due (ltb (length output) due) accepted (output_sound due due output) (output_complete due due output) (λ n₄. none_past)))))

  sheet_places : (t q : ℕ) → (test_at (encode_row w f output) t).number ≡ 3 → P t q → q < 12
  sheet_places zero q e p = absurd (omega arith)
  sheet_places (suc zero) q e p = p.0
  sheet_places (suc (suc zero)) q e p = absurd (omega arith)
  sheet_places (suc (suc (suc zero))) q e p = absurd (omega arith)
  sheet_places (suc (suc (suc (suc zero)))) q e p = absurd (omega arith)
  sheet_places (suc (suc (suc (suc (suc t))))) q e p = absurd (omega arith)

  pub encode_refused_exactly : (n q : ℕ) → ((encode w f output).answer ≡ refusal n q) ↔ FirstFailure edition1 (encode_row w f output) n q
  unfolding encode
  encode_refused_exactly = answer_refused edition1 (encode_row w f output) tests row same exact sheet_places due (table_words (sheet_of edition1 w) f) output

  pub encode_done_exactly : (n : ℕ) → ((encode w f output).answer ≡ done n) ↔ ((n ≡ words_for (sheet_of edition1 w) (sheet_of edition1 w).size) × NoFailure (encode_row w f output))
  unfolding encode
  encode_done_exactly = answer_done edition1 (encode_row w f output) tests row same exact sheet_places due (table_words (sheet_of edition1 w) f) output due (λ k. refl)
