-- The tests of prove of a batch in their order, each against what it is to be a fault of it.
use Prim.Native.Nat.{ℕ, zero, suc, ◌+◌, ◌-◌, ◌*◌, ◌≤◌, ◌<◌}
use Rattle.std.proofs.Math.Decide.{dec_lt}
use Rattle.std.proofs.Common.{zero-add, arith, ◌∙◌, subst, length-drop, get_or-append-add, le-leb, leb-true}
use Rattle.std.specs.Prelude.{Bool, true, false, not, ◌↔◌, ◌≡◌, refl, eqb, ltb, length, drop, replicate}
use mathlib.Core.List.{List, ◌++◌, map, zip_with}
use Rattle.std.proofs.Math.Option.{none}
use Rattle.std.proofs.Math.Path.{sym, ap}
use Rattle.std.proofs.Math.Dec.{leb}
use Rattle.std.proofs.Math.ListN.{get_or, length-append, get_or-append, get_or-eq_default}
use Rattle.std.proofs.lemmas.List.{length-replicate}
use Rattle.batch_definition.specs.Batch.{batch_coefficients_test, batch_coins_test, batch_input_tests, batch_layout, batch_out_tests, batch_range_test, batch_rules, batch_test, batch_words, honest_batch, prove_batch, sum_of}
use Rattle.definition.specs.Block.{block_count, file_of}
use Rattle.definition.specs.Deciding.{out_in_domain, repeated_outs}
use Rattle.definition.specs.Field.{begun_by}
use Rattle.definition.specs.Layout.{Kind, coin, coin_kinds, layout, limit, message}
use Rattle.definition.specs.Lists.{first_of, first_true}
use Rattle.definition.specs.Prove.{coin_domain_test, coin_equal_test, done, output_test, refusal, sheet_length_test}
use Rattle.definition.specs.Reading.{out_of_range, sheet_test}
use Rattle.definition.specs.Sheet.{Sheet, edition1, sheet_of, sheet_rules, test_order}
use Rattle.definition.specs.Verdict.{Outcome, ◌then◌, accepted, refuse_at, refuse_if, refused}
use Rattle.list_laws.specs.First.{first_of_lem}
use Rattle.list_laws.specs.Lists.{get_d_after_run, get_d_run}
use Rattle.layouts.specs.LawfulSheets.{Lawful}
use Rattle.layouts.specs.Levels.{sheet_field, words_for}
use Rattle.layouts.proofs.RulesByWord.{rules_counted, rules_length}
use Rattle.layouts.specs.Tests.{equal_passes}
use Rattle.completeness.specs.Faults.{NoFault, Part, RuleFault, outs, part_length, part_limit, turn_of}
use Rattle.completeness.specs.FirstFaults.{exact_at, exact_if, exact_places}
use Rattle.completeness.specs.OutCoinsByPlace
use Rattle.completeness.specs.Ready.{sheet_laws}
use Rattle.completeness.specs.TestsByNumber.{zip_at, zip_length}
use Rattle.completeness.proofs.VerifyExactly.{kind_limit, rule_complete, rule_sound, rules_rise, then_accepted, then_assoc}
use Rattle.refusals.specs.CoinParts.{coin_below, coin_kind, every_coin, kinds_due, placed}
use Rattle.refusals.specs.CountsAndRules.{blocks_complete, blocks_sound, count_complete, count_sound, counted, ruled_sheet}
use Rattle.refusals.proofs.InOrder.{ExactRow, FaultOf, answer_done, answer_refused, named, named_at, named_if, next, number_of, own, place_turn}
use Rattle.refusals.specs.InputFaults.{CoinDomainFault, CoinEqualFault, CoinPart, CountFault, FirstFailure, NoFailure, Test, coin_start, coins_due, test, test_at}
use Rattle.batches.proofs.AllowedBatches.{batch_coins}
use Rattle.batches.proofs.PlainStream.{tests_moved}
use Rattle.batches.proofs.ProverTests.{coins_long, outs_after}
use Rattle.batch_refusals.specs.BatchFaults
use Rattle.batch_refusals.specs.BatchFaults.{AfterJoint, BatchInputFault, BoundFault, batch_blocks_due, prove_batch_row}
use Rattle.batch_refusals.specs.BatchParts.{batch_words_lem}
use Rattle.batch_refusals.proofs.BoundsByNumber.{exact_bounds, number_kept}
use Rattle.batch_refusals.specs.DecidedFaults.{Finds}

-- what follows a test that passes
after_pass : (a b c : Outcome) → (a ≡ accepted → b ≡ c) → (a then b) ≡ (a then c)
unfolding ◌then◌
after_pass accepted b c e = e refl
after_pass (refused n q) b c e = refl

-- the coins due: r, and those of a plain run
all_coins : (h : Sheet) → Lawful h → (count : ℕ) → length (coin_kinds (batch_layout h count)) ≡ words_for h 1 + coins_due h
all_coins h law count = omega (arith, coins_long h count, kinds_due h law.paired)

-- ---- 5: coefficients and coins that are as many as are due

module _ (h : Sheet) (law : Lawful h) (count given : ℕ) (f coins : List ℕ) (many : length f ≡ given) (full : length coins ≡ words_for h 1 + coins_due h) where
  abbrev o : ℕ
  o = words_for h 1

  abbrev kinds : List Kind
  kinds = replicate given message ++ coin_kinds (batch_layout h count)

  abbrev ranges : List Bool
  ranges = zip_with (out_of_range h) (replicate given message ++ coin_kinds (batch_layout h count)) (f ++ coins)

  kinds_length : length kinds ≡ length f + length coins
  kinds_length = omega (arith, length-append (replicate given message) (coin_kinds (batch_layout h count)), length-replicate given message, many, full, all_coins h law count)

  ranges_length : length ranges ≡ length f + length coins
  ranges_length = zip_length (out_of_range h) message 0 kinds (f ++ coins) (omega (arith, kinds_length, length-append f coins)) ∙ kinds_length

  -- a word of a kind with a limit
  range_at : (j a x : ℕ) → j < length f + length coins → limit h.prime (get_or kinds j message) ≡ a → get_or (f ++ coins) j 0 ≡ x → get_or ranges j false ≡ leb a x
  unfolding out_of_range
  range_at j a x l e s =
      zip_at (out_of_range h) message 0 kinds (f ++ coins) j (omega (arith, kinds_length)) (omega (arith, kinds_length, length-append f coins)) ∙ (λ i. leb (e i) (s i))

  coefficient_range : (j : ℕ) → j < length f → get_or ranges j false ≡ leb h.prime (get_or f j 0)
  unfolding limit
  coefficient_range j l =
      range_at j h.prime (get_or f j 0) (omega arith) (ap (limit h.prime) (get_d_run message given message (coin_kinds (batch_layout h count)) j (omega (arith, many)))) (get_or-append f coins 0 j l)

  coin_kinds_lem : (j : ℕ) → get_or kinds (length f + j) message ≡ get_or (replicate (words_for h 1) coin ++ coin_kinds (layout h)) j message
  coin_kinds_lem j =
      ap (λ (n : ℕ). get_or kinds (n + j) message) many ∙ get_d_after_run message given message (coin_kinds (batch_layout h count)) j ∙ ap (λ (ks : List Kind). get_or ks j message) (batch_coins h count)

  joint_range : (j : ℕ) → j < words_for h 1 → get_or ranges (length f + j) false ≡ leb h.prime (get_or coins j 0)
  unfolding limit
  joint_range j l =
      range_at (length f + j) h.prime (get_or coins j 0) (omega (arith, full)) (ap (limit h.prime) (coin_kinds_lem j ∙ get_d_run message o coin (coin_kinds (layout h)) j l)) (get_or-append-add f coins j 0)

  part_range : (x : Part) → CoinPart h x → (j : ℕ) → j < part_length h x →
      get_or ranges (length f + (words_for h 1 + (coin_start h x + j))) false ≡ leb (part_limit h x) (get_or coins (words_for h 1 + (coin_start h x + j)) 0)
  part_range x d j l =
      range_at (length f + (o + (coin_start h x + j))) (part_limit h x) (get_or coins (o + (coin_start h x + j)) 0) (omega (arith, full, coin_below h x d j l))
      (ap (limit h.prime) (coin_kinds_lem (o + (coin_start h x + j)) ∙ get_d_after_run message o coin (coin_kinds (layout h)) (coin_start h x + j) ∙ coin_kind h law.paired x d j l) ∙ kind_limit h x j l)
      (get_or-append-add f coins (o + (coin_start h x + j)) 0)

  pub inputs_found : Finds (BatchInputFault h f coins) 0 (zip_with (out_of_range h) (replicate given message ++ coin_kinds (batch_layout h count)) (f ++ coins))
  inputs_found = (λ j l e. subst (BatchInputFault h f coins) (sym (zero-add j)) (sound j (omega (arith, ranges_length)) e (dec_lt j (length f)) (dec_lt j (length f + o))), complete)
    where
      sound : (j : ℕ) → j < length f + length coins → get_or ranges j false ≡ true → Dec (j < length f) → Dec (j < length f + o) → BatchInputFault h f coins j
      sound j l e (yes u) v = BatchFaults.BatchInputFault.coefficient (u, leb-true h.prime (get_or f j 0) (sym (coefficient_range j u) ∙ e))
      sound j l e (no u) (yes v) =
          let i = j - length f in
          let s : j ≡ length f + i = omega arith in
          let b : i < o = omega arith in
          BatchFaults.BatchInputFault.joint_coin i b s (leb-true _ _ (sym (joint_range i b) ∙ ap (λ (n : ℕ). get_or ranges n false) (sym s) ∙ e))
      sound j l e (no u) (no v) =
          let p = every_coin h (j - (length f + o)) (omega (arith, full)) in
          let s : j ≡ length f + (o + (coin_start h p.0 + p.2.0)) = omega (arith, p.2.2) in
          BatchFaults.BatchInputFault.coin p.0 p.1 p.2.0 p.2.1 s
          (leb-true _ _ (sym (part_range p.0 p.1 p.2.0 p.2.1) ∙ ap (λ (n : ℕ). get_or ranges n false) (sym s) ∙ e))

      complete : (q : ℕ) → BatchInputFault h f coins q → (j : ℕ) × (q ≡ 0 + j) × (j < length ranges) × (get_or ranges j false ≡ true)
      complete q (BatchFaults.BatchInputFault.coefficient p) =
          (q, sym (zero-add q), omega (arith, p.0, ranges_length), coefficient_range q p.0 ∙ le-leb h.prime (get_or f q 0) p.1)
      complete q (BatchFaults.BatchInputFault.joint_coin j l s k) =
          (q, sym (zero-add q), omega (arith, s, ranges_length, full), ap (λ (n : ℕ). get_or ranges n false) s ∙ joint_range j l ∙ le-leb _ _ k)
      complete q (BatchFaults.BatchInputFault.coin x d j l s k) = (
        q,
        sym (zero-add q),
        omega (arith, s, ranges_length, full, coin_below h x d j l),
        ap (λ (n : ℕ). get_or ranges n false) s ∙ part_range x d j l ∙ le-leb _ _ k,
      )

-- ---- all tests

module _ (w bounds f coins output : List ℕ) where
  abbrev h : Sheet
  h = sheet_of edition1 w

  abbrev count : ℕ
  count = length bounds

  abbrev given : ℕ
  given = words_for (sheet_of edition1 w) (sum_of bounds)

  abbrev joint : ℕ
  joint = words_for (sheet_of edition1 w) 1

  abbrev place : ℕ
  place = block_count (batch_words (sheet_of edition1 w) (length bounds))

  abbrev rules : List Bool
  rules = map not (sheet_rules edition1 w)

  abbrev ks : List Kind
  ks = coin_kinds (batch_layout (sheet_of edition1 w) (length bounds))

  abbrev plain_coins : List ℕ
  plain_coins = drop (words_for (sheet_of edition1 w) 1) coins

  abbrev inputs : List Bool
  inputs = zip_with (out_of_range (sheet_of edition1 w)) (replicate given message ++ coin_kinds (batch_layout (sheet_of edition1 w) (length bounds))) (f ++ coins)

  abbrev in_domains : List Bool
  in_domains = zip_with (out_in_domain (sheet_of edition1 w).spelling (sheet_of edition1 w)) (coin_kinds (layout (sheet_of edition1 w))) (begun_by (sheet_of edition1 w).spelling plain_coins)

  abbrev equals : List Bool
  equals = repeated_outs (sheet_field (sheet_of edition1 w)) none (coin_kinds (layout (sheet_of edition1 w))) (begun_by (sheet_of edition1 w).spelling plain_coins)

  abbrev P : ℕ → (ℕ → Type 0)
  P = FaultOf edition1 (prove_batch_row w bounds f coins output)

  abbrev T : ℕ → ℕ → ℕ
  T = place_turn edition1 (prove_batch_row w bounds f coins output)

  -- the tests, called by their turns
  abbrev row : Outcome
  row = refuse_if 0 0 (not (eqb (length w) 12)) then refuse_at 1 (first_of (test_order edition1) rules) then refuse_at 2 (first_true 0 (map not (batch_rules (sheet_of edition1 w) (length bounds) bounds)))
      then refuse_if 3 1 (not (eqb (length f) given)) then refuse_if 4 2 (not (eqb (length coins) (length ks))) then refuse_at 5 (first_true 0 inputs)
      then refuse_at 6 (first_true (0 + joint) in_domains) then refuse_at 7 (first_true (0 + joint) equals) then refuse_if 8 place (ltb (length output) (512 * place)) then accepted

  abbrev tests : Outcome
  tests = sheet_length_test edition1 w then sheet_test edition1 w then batch_input_tests (sheet_of edition1 w) bounds f coins output

  abbrev room : Outcome
  room = output_test place (512 * place) (length output)

  -- 7 and 14 are those of the coins after r
  outs_same_lem : batch_coins_test ks coins ≡ accepted → (refuse_at 7 (first_true (0 + joint) in_domains) then refuse_at 14 (first_true (0 + joint) equals) then room) ≡ (batch_out_tests h ks coins then room)
  unfolding batch_coins_test coin_domain_test coin_equal_test
  outs_same_lem e =
      sym (then_assoc (refuse_at 7 (first_true (0 + joint) in_domains)) (refuse_at 14 (first_true (0 + joint) equals)) room)
      ∙ ap (λ (x : Outcome). x then room) (tests_moved 0 joint in_domains equals
      ∙ sym (outs_after h count coins (omega (arith, equal_passes 10 2 (length coins) (length ks) e, coins_long h count))))

  same : named (number_of edition1 (prove_batch_row w bounds f coins output)) row ≡ tests
  unfolding batch_input_tests sheet_length_test sheet_test batch_test batch_coefficients_test batch_coins_test batch_range_test output_test
  same =
      let n = number_of edition1 (prove_batch_row w bounds f coins output) in
      next n _ _ _ _ (named_if n 0 0 _) (next n _ _ _ _ (named_at n 1 _) (next n _ _ _ _ (named_at n 2 _) (next n _ _ _ _ (named_if n 3 1 _)
      (next n _ _ _ _ (named_if n 4 2 _) (next n _ _ _ _ (named_at n 5 _) (next n _ _ _ _ (named_at n 6 _) (next n _ _ _ _ (named_at n 7 _)
      (ap (named n) (sym (then_accepted (refuse_if 8 place (ltb (length output) (512 * place))))) ∙ named_if n 8 place _))))
      ∙ after_pass (batch_coins_test ks coins) _ _ (λ e. ap (λ (x : Outcome). refuse_at 5 (first_true 0 inputs) then x) (outs_same_lem e))))))

  -- what has passed, for the tests after it
  module _ (whole : (q : ℕ) → CountFault 0 12 w q → ⊥) (ruled : (q : ℕ) → RuleFault edition1 w q → ⊥) where
    law : Lawful h
    law = ruled_sheet edition1 w whole ruled

    -- 10, of the coins
    coins_sound : not (eqb (length coins) (length ks)) ≡ true → CountFault 2 (joint + coins_due h) coins 2
    coins_sound e = count_sound 2 (joint + coins_due h) coins (subst (λ (n : ℕ). not (eqb (length coins) n) ≡ true) (all_coins h law count) e)

    coins_complete : (q : ℕ) → CountFault 2 (joint + coins_due h) coins q → (q ≡ 2) × (not (eqb (length coins) (length ks)) ≡ true)
    coins_complete q p =
        let r = count_complete 2 (joint + coins_due h) coins q p in
        (r.0, subst (λ (n : ℕ). not (eqb (length coins) n) ≡ true) (sym (all_coins h law count)) r.1)

    -- 11
    place_is : ((q : ℕ) → BoundFault h count bounds q → ⊥) → place ≡ batch_blocks_due h count
    place_is bounded = ap block_count (batch_words_lem h law.paired count (number_kept h count bounds bounded).0)

    module _ (counts : (q : ℕ) → CountFault 2 (joint + coins_due h) coins q → ⊥) where
      full : length coins ≡ joint + coins_due h
      full = counted 2 (joint + coins_due h) coins counts

      plain_full : length (coin_kinds (layout h)) ≤ length plain_coins
      plain_full = omega (arith, full, length-drop joint coins, kinds_due h law.paired)

      -- 7
      domain_finds : Finds (AfterJoint h (CoinDomainFault h plain_coins)) (0 + joint) in_domains
      domain_finds = (
        λ j l e. (j, omega arith, OutCoinsByPlace.domain_sound h (coin_kinds (layout h)) (λ i. coin_start h (outs i)) (placed h law) (sheet_laws edition1 w) law.outs plain_coins plain_full j l e),
        λ q p. let c = OutCoinsByPlace.domain_complete h (coin_kinds (layout h)) (λ i. coin_start h (outs i)) (placed h law) (sheet_laws edition1 w) law.outs plain_coins plain_full p.0 p.2 in
            (p.0, omega (arith, p.1), c.0, c.1),
      )

      -- 14
      equal_finds : Finds (AfterJoint h (CoinEqualFault h plain_coins)) (0 + joint) equals
      equal_finds = (
        λ j l e. (j, omega arith, OutCoinsByPlace.equal_sound h (coin_kinds (layout h)) (λ i. coin_start h (outs i)) (placed h law) (sheet_laws edition1 w) law.outs plain_coins plain_full j l e),
        λ q p. let c = OutCoinsByPlace.equal_complete h (coin_kinds (layout h)) (λ i. coin_start h (outs i)) (placed h law) (sheet_laws edition1 w) law.outs plain_coins plain_full p.0 p.2 in
            (p.0, omega (arith, p.1), c.0, c.1),
      )

  none_past : (t q : ℕ) → 10 ≤ suc t → P t q → ⊥
  none_past t q l p = subst (λ (x : Test). x.Fault q) (get_or-eq_default (prove_batch_row w bounds f coins output) (test 0 NoFault) {n = t} (omega arith)) p

  exact : ExactRow edition1 (prove_batch_row w bounds f coins output) 1 row
  unfolding turn_of
  exact =
      let due = batch_blocks_due h count in
      exact_if P T suc own 0 0 (not (eqb (length w) 12)) _ (count_sound 0 12 w) (count_complete 0 12 w) (λ n₀.
      exact_places P T suc own 1 (λ j. get_or (test_order edition1) j 0) rules (first_of (test_order edition1) rules) _
      (first_of_lem (test_order edition1) rules (omega (arith, rules_length edition1 w, rules_counted edition1))) (rules_rise edition1 w) (rule_sound edition1 w) (rule_complete edition1 w) (λ n₁.
      exact_bounds h count bounds P T 2 (λ q. refl) (λ q p. p) (λ q p. p) (λ l. omega arith) _ (λ n₂.
      exact_if P T suc own 3 1 (not (eqb (length f) given)) _ (count_sound 1 given f) (count_complete 1 given f) (λ n₃.
      exact_if P T suc own 4 2 (not (eqb (length coins) (length ks))) _ (coins_sound n₀ n₁) (coins_complete n₀ n₁) (λ n₄.
      let found = inputs_found h (law n₀ n₁) count given f coins (counted 1 given f n₃) (full n₀ n₁ n₄) in
      exact_at P T suc own 5 0 inputs _ (λ q. refl) found.0 found.1 (λ n₅.
      exact_at P T suc own 6 (0 + joint) in_domains _ (λ q. refl) (domain_finds n₀ n₁ n₄).0 (domain_finds n₀ n₁ n₄).1 (λ n₆.
      exact_at P T suc own 7 (0 + joint) equals _ (λ q. refl) (equal_finds n₀ n₁ n₄).0 (equal_finds n₀ n₁ n₄).1 (λ n₇.
      exact_if P T suc own 8 place (ltb (length output) (512 * place)) accepted (blocks_sound place due output (place_is n₀ n₁ n₂)) (blocks_complete place due output (place_is n₀ n₁ n₂)) (λ n₈. none_past)))))))))

  sheet_places : (t q : ℕ) → (test_at (prove_batch_row w bounds f coins output) t).number ≡ 3 → P t q → q < 12
  sheet_places zero q e p = absurd (omega arith)
  sheet_places (suc zero) q e p = p.0
  sheet_places (suc (suc zero)) q e p = absurd (omega arith)
  sheet_places (suc (suc (suc zero))) q e p = absurd (omega arith)
  sheet_places (suc (suc (suc (suc zero)))) q e p = absurd (omega arith)
  sheet_places (suc (suc (suc (suc (suc zero))))) q e p = absurd (omega arith)
  sheet_places (suc (suc (suc (suc (suc (suc zero)))))) q e p = absurd (omega arith)
  sheet_places (suc (suc (suc (suc (suc (suc (suc zero))))))) q e p = absurd (omega arith)
  sheet_places (suc (suc (suc (suc (suc (suc (suc (suc zero)))))))) q e p = absurd (omega arith)
  sheet_places (suc (suc (suc (suc (suc (suc (suc (suc (suc t))))))))) q e p = absurd (omega arith)

  pub refused_exactly : (n q : ℕ) → ((prove_batch w bounds f coins output).answer ≡ refusal n q) ↔ FirstFailure edition1 (prove_batch_row w bounds f coins output) n q
  unfolding prove_batch
  refused_exactly = answer_refused edition1 (prove_batch_row w bounds f coins output) tests row same exact sheet_places place (file_of (honest_batch w bounds f coins)) output

  pub done_exactly : (n : ℕ) →
      ((prove_batch w bounds f coins output).answer ≡ done n) ↔ ((n ≡ batch_blocks_due (sheet_of edition1 w) (length bounds)) × NoFailure (prove_batch_row w bounds f coins output))
  unfolding prove_batch
  done_exactly =
      answer_done edition1 (prove_batch_row w bounds f coins output) tests row same exact sheet_places place (file_of (honest_batch w bounds f coins)) output (batch_blocks_due (sheet_of edition1 w) (length bounds))
      (λ k. place_is (k 0) (k 1) (k 2))
