-- Prove's tests in their order, each against what it is to be a fault of it.
use Prim.Native.Nat.{ℕ, zero, suc, ◌+◌, ◌-◌, ◌*◌, ◌≤◌, ◌<◌}
use Rattle.std.proofs.Math.Decide.{dec_lt}
use Rattle.std.proofs.Common.{zero-add, arith, sym, ◌∙◌, subst, length-append, get_or-append-add, le-leb, leb-true}
use Rattle.std.specs.Prelude.{Bool, true, false, not, ◌↔◌, ◌≡◌, refl, eqb, ltb, length, replicate}
use mathlib.Core.List.{List, ◌++◌, map, zip_with}
use Rattle.std.proofs.Math.Option.{none}
use Rattle.std.proofs.Math.Path.{ap}
use Rattle.std.proofs.Math.Dec.{leb}
use Rattle.std.proofs.Math.ListN.{get_or, get_or-append, get_or-eq_default}
use Rattle.std.proofs.lemmas.List.{length-replicate}
use Rattle.definition.specs.Block.{block_count, file_of}
use Rattle.definition.specs.Deciding.{out_in_domain, repeated_outs}
use Rattle.definition.specs.Field.{begun_by}
use Rattle.definition.specs.Layout.{Kind, coin_kinds, layout, limit, message, words_due}
use Rattle.definition.specs.Lists.{first_of, first_true}
use Rattle.definition.specs.Prove.{coefficients_test, coin_domain_test, coin_equal_test, coins_test, done, input_range_test, output_test, prove_in, prove_tests, refusal, sheet_length_test}
use Rattle.definition.specs.Prover.{honest_stream}
use Rattle.definition.specs.Reading.{out_of_range, sheet_test}
use Rattle.definition.specs.Sheet.{Edition, Sheet, sheet_length, sheet_of, sheet_rules, test_order}
use Rattle.definition.specs.Verdict.{Outcome, ◌then◌, accepted, refuse_at, refuse_if}
use Rattle.list_laws.specs.First.{first_of_lem}
use Rattle.list_laws.specs.Lists.{get_d_after_run, get_d_run}
use Rattle.layouts.specs.LawfulSheets.{Lawful}
use Rattle.layouts.specs.Levels.{sheet_field, words_for}
use Rattle.layouts.proofs.RulesByWord.{rules_counted, rules_length}
use Rattle.completeness.specs.Faults.{NoFault, Part, RuleFault, outs, part_length, part_limit, turn_of}
use Rattle.completeness.specs.FirstFaults.{exact_at, exact_if, exact_places}
use Rattle.completeness.specs.OutCoinsByPlace
use Rattle.completeness.specs.PartsByNumber.{due_is, part_kind}
use Rattle.completeness.specs.Ready.{sheet_laws}
use Rattle.completeness.specs.TestsByNumber.{zip_at, zip_length}
use Rattle.completeness.proofs.VerifyExactly.{kind_limit, rule_complete, rule_sound, rules_rise, then_accepted}
use Rattle.refusals.specs.CoinParts.{coin_below, coin_kind, every_coin, kinds_due, placed}
use Rattle.refusals.specs.CountsAndRules.{blocks_complete, blocks_sound, count_complete, count_sound, counted, ruled_sheet}
use Rattle.refusals.proofs.InOrder.{ExactRow, FaultOf, answer_done, answer_refused, named, named_at, named_if, next, number_of, own, place_turn}
use Rattle.refusals.specs.InputFaults
use Rattle.refusals.specs.InputFaults.{CoinDomainFault, CoinEqualFault, CoinPart, CountFault, FirstFailure, InputFault, NoFailure, Test, blocks_due, coin_start, coins_due, prove_row, test, test_at}

-- ---- 5: coefficients and coins that are as many as are due

module _ (h : Sheet) (law : Lawful h) (f coins : List ℕ) (many : length f ≡ words_for h h.degree) (due : length coins ≡ coins_due h) where
  abbrev ks : List Kind
  ks = coin_kinds (layout h)

  abbrev kinds : List Kind
  kinds = replicate (words_for h h.degree) message ++ coin_kinds (layout h)

  abbrev ranges : List Bool
  ranges = zip_with (out_of_range h) (replicate (words_for h h.degree) message ++ coin_kinds (layout h)) (f ++ coins)

  kinds_length : length kinds ≡ length f + length coins
  kinds_length =
      omega (arith, length-append (replicate (words_for h h.degree) message) ks, length-replicate (words_for h h.degree) message, many, due, kinds_due h law.paired)

  ranges_length : length ranges ≡ length f + length coins
  ranges_length = zip_length (out_of_range h) message 0 kinds (f ++ coins) (omega (arith, kinds_length, length-append f coins)) ∙ kinds_length

  range_at : (j : ℕ) → j < length f + length coins → get_or ranges j false ≡ out_of_range h (get_or kinds j message) (get_or (f ++ coins) j 0)
  range_at j l = zip_at (out_of_range h) message 0 kinds (f ++ coins) j (omega (arith, kinds_length)) (omega (arith, kinds_length, length-append f coins))

  coefficient_range : (j : ℕ) → j < length f → get_or ranges j false ≡ leb h.prime (get_or f j 0)
  unfolding out_of_range limit
  coefficient_range j l =
      range_at j (omega arith)
      ∙ (λ y. out_of_range h (get_d_run message (words_for h h.degree) message ks j (omega (arith, many)) y) (get_or-append f coins 0 j l y))

  coin_range : (j : ℕ) → j < length coins → get_or ranges (length f + j) false ≡ out_of_range h (get_or ks j message) (get_or coins j 0)
  coin_range j l =
      range_at (length f + j) (omega arith)
      ∙ (λ y. out_of_range h ((ap (λ (n : ℕ). get_or kinds (n + j) message) many ∙ get_d_after_run message (words_for h h.degree) message ks j) y) (get_or-append-add f coins j 0 y))

  part_range : (x : Part) (d : CoinPart h x) (j : ℕ) (l : j < part_length h x) →
      get_or ranges (length f + (coin_start h x + j)) false ≡ leb (part_limit h x) (get_or coins (coin_start h x + j) 0)
  unfolding out_of_range
  part_range x d j l =
      coin_range (coin_start h x + j) (omega (arith, due, coin_below h x d j l))
      ∙ ap (λ (n : ℕ). leb n (get_or coins (coin_start h x + j) 0)) (ap (limit h.prime) (coin_kind h law.paired x d j l) ∙ kind_limit h x j l)

  range_sound : (j : ℕ) → j < length ranges → get_or ranges j false ≡ true → InputFault h f coins (0 + j)
  range_sound j l e = subst (InputFault h f coins) (sym (zero-add j)) (go (dec_lt j (length f)))
    where
      go : Dec (j < length f) → InputFault h f coins j
      go (yes u) = InputFaults.InputFault.coefficient (u, leb-true h.prime (get_or f j 0) (sym (coefficient_range j u) ∙ e))
      go (no u) =
          let p = every_coin h (j - length f) (omega (arith, ranges_length, due)) in
          let s : j ≡ length f + (coin_start h p.0 + p.2.0) = omega (arith, p.2.2) in
          InputFaults.InputFault.coin p.0 p.1 p.2.0 p.2.1 s
          (leb-true _ _ (sym (part_range p.0 p.1 p.2.0 p.2.1) ∙ ap (λ (n : ℕ). get_or ranges n false) (sym s) ∙ e))

  range_complete : (q : ℕ) → InputFault h f coins q → (j : ℕ) × (q ≡ 0 + j) × (j < length ranges) × (get_or ranges j false ≡ true)
  range_complete q (InputFaults.InputFault.coefficient p) = (q, sym (zero-add q), omega (arith, p.0, ranges_length), coefficient_range q p.0 ∙ le-leb h.prime (get_or f q 0) p.1)
  range_complete q (InputFaults.InputFault.coin x d j l s o) = (
    q,
    sym (zero-add q),
    omega (arith, s, ranges_length, due, coin_below h x d j l),
    ap (λ (n : ℕ). get_or ranges n false) s ∙ part_range x d j l ∙ le-leb _ _ o,
  )

-- ---- all tests

module _ (ed : Edition) (w f coins output : List ℕ) where
  abbrev h : Sheet
  h = sheet_of ed w

  abbrev given : ℕ
  given = words_for (sheet_of ed w) (sheet_of ed w).degree

  abbrev place : ℕ
  place = block_count (words_due ed (sheet_of ed w))

  abbrev rules : List Bool
  rules = map not (sheet_rules ed w)

  abbrev in_domains : List Bool
  in_domains = zip_with (out_in_domain (sheet_of ed w).spelling (sheet_of ed w)) (coin_kinds (layout (sheet_of ed w))) (begun_by (sheet_of ed w).spelling coins)

  abbrev equals : List Bool
  equals = repeated_outs (sheet_field (sheet_of ed w)) none (coin_kinds (layout (sheet_of ed w))) (begun_by (sheet_of ed w).spelling coins)

  abbrev inputs : List Bool
  inputs = zip_with (out_of_range (sheet_of ed w)) (replicate (words_for (sheet_of ed w) (sheet_of ed w).degree) message ++ coin_kinds (layout (sheet_of ed w))) (f ++ coins)

  abbrev P : ℕ → (ℕ → Type 0)
  P = FaultOf ed (prove_row ed w f coins output)

  abbrev T : ℕ → ℕ → ℕ
  T = place_turn ed (prove_row ed w f coins output)

  -- the tests, called by their turns
  abbrev row : Outcome
  row = refuse_if 0 0 (not (eqb (length w) (sheet_length ed))) then refuse_at 1 (first_of (test_order ed) (map not (sheet_rules ed w)))
      then refuse_if 2 1 (not (eqb (length f) given)) then refuse_if 3 2 (not (eqb (length coins) (length (coin_kinds (layout (sheet_of ed w))))))
      then refuse_at 4 (first_true 0 inputs) then refuse_at 5 (first_true 0 in_domains) then refuse_at 6 (first_true 0 equals)
      then refuse_if 7 place (ltb (length output) (512 * place)) then accepted

  abbrev tests : Outcome
  tests = sheet_length_test ed w then sheet_test ed w then prove_tests ed (sheet_of ed w) f coins output

  same : named (number_of ed (prove_row ed w f coins output)) row ≡ tests
  unfolding prove_tests sheet_length_test sheet_test coefficients_test coins_test input_range_test coin_domain_test coin_equal_test output_test
  same =
      let N = number_of ed (prove_row ed w f coins output) in
      next N _ _ _ _ (named_if N 0 0 _) (next N _ _ _ _ (named_at N 1 _) (next N _ _ _ _ (named_if N 2 1 _) (next N _ _ _ _ (named_if N 3 2 _) (next N _ _ _ _ (named_at N 4 _)
      (next N _ _ _ _ (named_at N 5 _) (next N _ _ _ _ (named_at N 6 _)
      (ap (named N) (sym (then_accepted (refuse_if 7 place (ltb (length output) (512 * place))))) ∙ named_if N 7 place _)))))))

  -- what has passed, for the tests after it
  module _ (whole : (q : ℕ) → CountFault 0 (sheet_length ed) w q → ⊥) (ruled : (q : ℕ) → RuleFault ed w q → ⊥) where
    law : Lawful h
    law = ruled_sheet ed w whole ruled

    -- 10, of the coins
    coins_sound : not (eqb (length coins) (length (coin_kinds (layout (sheet_of ed w))))) ≡ true → CountFault 2 (coins_due h) coins 2
    coins_sound e = count_sound 2 (coins_due h) coins (subst (λ (n : ℕ). not (eqb (length coins) n) ≡ true) (kinds_due h law.paired) e)

    coins_complete : (q : ℕ) → CountFault 2 (coins_due h) coins q → (q ≡ 2) × (not (eqb (length coins) (length (coin_kinds (layout (sheet_of ed w))))) ≡ true)
    coins_complete q p =
        let r = count_complete 2 (coins_due h) coins q p in
        (r.0, subst (λ (n : ℕ). not (eqb (length coins) n) ≡ true) (sym (kinds_due h law.paired)) r.1)

    -- 11
    place_is : place ≡ blocks_due ed h
    place_is = ap block_count (due_is ed h law.paired)

    module _ (full : (q : ℕ) → CountFault 2 (coins_due h) coins q → ⊥) where
      coins_many : length coins ≡ coins_due h
      coins_many = counted 2 (coins_due h) coins full

      enough : length (coin_kinds (layout (sheet_of ed w))) ≤ length coins
      enough = omega (arith, coins_many, kinds_due h law.paired)

      -- 7
      domain_sound : (j : ℕ) → j < length in_domains → get_or in_domains j false ≡ true → CoinDomainFault h coins (0 + j)
      domain_sound j l e =
          subst (CoinDomainFault h coins) (sym (zero-add j)) (OutCoinsByPlace.domain_sound h (coin_kinds (layout h)) (λ i. coin_start h (outs i)) (placed h law) (sheet_laws ed w) law.outs coins enough j l e)

      domain_complete : (q : ℕ) → CoinDomainFault h coins q → (j : ℕ) × (q ≡ 0 + j) × (j < length in_domains) × (get_or in_domains j false ≡ true)
      domain_complete q p =
          let c = OutCoinsByPlace.domain_complete h (coin_kinds (layout h)) (λ i. coin_start h (outs i)) (placed h law) (sheet_laws ed w) law.outs coins enough q p in
          (q, sym (zero-add q), c.0, c.1)

      -- 14
      equal_sound : (j : ℕ) → j < length equals → get_or equals j false ≡ true → CoinEqualFault h coins (0 + j)
      equal_sound j l e =
          subst (CoinEqualFault h coins) (sym (zero-add j)) (OutCoinsByPlace.equal_sound h (coin_kinds (layout h)) (λ i. coin_start h (outs i)) (placed h law) (sheet_laws ed w) law.outs coins enough j l e)

      equal_complete : (q : ℕ) → CoinEqualFault h coins q → (j : ℕ) × (q ≡ 0 + j) × (j < length equals) × (get_or equals j false ≡ true)
      equal_complete q p =
          let c = OutCoinsByPlace.equal_complete h (coin_kinds (layout h)) (λ i. coin_start h (outs i)) (placed h law) (sheet_laws ed w) law.outs coins enough q p in
          (q, sym (zero-add q), c.0, c.1)

  none_past : (t q : ℕ) → 9 ≤ suc t → P t q → ⊥
  none_past t q l p = subst (λ (x : Test). x.Fault q) (get_or-eq_default (prove_row ed w f coins output) (test 0 NoFault) {n = t} (omega arith)) p

  exact : ExactRow ed (prove_row ed w f coins output) 1 row
  unfolding turn_of
  exact =
      let due = blocks_due ed h in
      exact_if P T suc own 0 0 (not (eqb (length w) (sheet_length ed))) _ (count_sound 0 (sheet_length ed) w) (count_complete 0 (sheet_length ed) w) (λ n₀.
      exact_places P T suc own 1 (λ j. get_or (test_order ed) j 0) rules (first_of (test_order ed) rules) _
      (first_of_lem (test_order ed) rules (omega (arith, rules_length ed w, rules_counted ed))) (rules_rise ed w) (rule_sound ed w) (rule_complete ed w) (λ n₁.
      exact_if P T suc own 2 1 (not (eqb (length f) given)) _ (count_sound 1 given f) (count_complete 1 given f) (λ n₂.
      exact_if P T suc own 3 2 (not (eqb (length coins) (length (coin_kinds (layout (sheet_of ed w)))))) _ (coins_sound n₀ n₁) (coins_complete n₀ n₁) (λ n₃.
      exact_at P T suc own 4 0 inputs _ (λ q. refl) (range_sound h (law n₀ n₁) f coins (counted 1 given f n₂) (coins_many n₀ n₁ n₃)) (range_complete h (law n₀ n₁) f coins (counted 1 given f n₂) (coins_many n₀ n₁ n₃)) (λ n₄.
      exact_at P T suc own 5 0 in_domains _ (λ q. refl) (domain_sound n₀ n₁ n₃) (domain_complete n₀ n₁ n₃) (λ n₅.
      exact_at P T suc own 6 0 equals _ (λ q. refl) (equal_sound n₀ n₁ n₃) (equal_complete n₀ n₁ n₃) (λ n₆.
      exact_if P T suc own 7 place (ltb (length output) (512 * place)) accepted (blocks_sound place due output (place_is n₀ n₁)) (blocks_complete place due output (place_is n₀ n₁)) (λ n₇. none_past))))))))

  sheet_places : (t q : ℕ) → (test_at (prove_row ed w f coins output) t).number ≡ 3 → P t q → q < sheet_length ed
  sheet_places zero q e p = absurd (omega arith)
  sheet_places (suc zero) q e p = p.0
  sheet_places (suc (suc zero)) q e p = absurd (omega arith)
  sheet_places (suc (suc (suc zero))) q e p = absurd (omega arith)
  sheet_places (suc (suc (suc (suc zero)))) q e p = absurd (omega arith)
  sheet_places (suc (suc (suc (suc (suc zero))))) q e p = absurd (omega arith)
  sheet_places (suc (suc (suc (suc (suc (suc zero)))))) q e p = absurd (omega arith)
  sheet_places (suc (suc (suc (suc (suc (suc (suc zero))))))) q e p = absurd (omega arith)
  sheet_places (suc (suc (suc (suc (suc (suc (suc (suc t)))))))) q e p = absurd (omega arith)

  pub prove_refused_exactly : (n q : ℕ) → ((prove_in ed w f coins output).answer ≡ refusal n q) ↔ FirstFailure ed (prove_row ed w f coins output) n q
  unfolding prove_in
  prove_refused_exactly = answer_refused ed (prove_row ed w f coins output) tests row same exact sheet_places place (file_of (honest_stream ed w f coins)) output

  pub prove_done_exactly : (n : ℕ) → ((prove_in ed w f coins output).answer ≡ done n) ↔ ((n ≡ blocks_due ed (sheet_of ed w)) × NoFailure (prove_row ed w f coins output))
  unfolding prove_in
  prove_done_exactly =
      answer_done ed (prove_row ed w f coins output) tests row same exact sheet_places place (file_of (honest_stream ed w f coins)) output (blocks_due ed (sheet_of ed w)) (λ k. place_is (k 0) (k 1))
