-- The answers of verify, prove and encode that exist, with the range of each place.
use Rattle.std.specs.Prelude.{ℕ, zero, suc, ◌+◌, ◌≤◌, ◌<◌, Bool, ◌≡◌, refl, length, replicate}
use Rattle.std.proofs.Common.{arith, sym}
use Rattle.std.proofs.Math.Bool.{true, false, not}
use mathlib.Core.List.{List, [], ◌++◌, map}
use Rattle.std.proofs.Math.Option.{Option, none, some}
use Rattle.std.proofs.Math.Path.{subst}
use Rattle.std.proofs.Math.ListN.{get_or, length-append}
use Rattle.definition.specs.Deciding.{out_in_domain}
use Rattle.definition.specs.Field.{begun_by}
use Rattle.definition.specs.Layout.{coin_kinds, layout, message}
use Rattle.definition.specs.Lists.{first_of, first_true}
use Rattle.definition.specs.Prove.{coefficients_test, coin_domain_test, coin_equal_test, coins_test, encode, encode_tests, finish, input_range_test, output_test, prove_in, prove_tests, refusal, sheet_length_test}
use Rattle.definition.specs.Reading.{out_of_range, sheet_test}
use Rattle.definition.specs.Sheet.{Edition, edition1, sheet_length, sheet_of, sheet_rules, test_order}
use Rattle.definition.specs.Verdict.{Outcome, ◌then◌, accepted, refuse_at, refuse_if, refused}
use Rattle.definition.specs.Verify.{verify_in}
use Rattle.list_laws.specs.First.{FirstAt, FirstTrue, first_of_lem, first_true_lem}
use Rattle.list_laws.specs.Lists.{zip_short}
use Rattle.layouts.specs.Levels.{out_coin_count, rounds_of, sheet_field, words_for}
use Rattle.layouts.specs.Spellings.{begun_length, count_below, count_one}
use Rattle.layouts.proofs.RulesByWord.{rules_counted, rules_length, turn_of_word}
use Rattle.completeness.proofs.AcceptedExactly.{refused_exactly}
use Rattle.completeness.specs.EqualOuts.{repeated_most}
use Rattle.completeness.specs.Faults
use Rattle.completeness.specs.Faults.{EncodeRefusal, Fault, NoFault, ProveRefusal, VerifyRefusal, due_of, faults_of, number_turn, outs, part_length, part_start, sheet_in}
use Rattle.completeness.specs.PartsByNumber.{part_below}
use Rattle.completeness.proofs.VerifyExactly.{own_turn}

-- what holds of every refusal of an outcome
module _ (Q : ℕ → ℕ → Type 0) where
  abbrev pub Refuses : Outcome → Type 0
  Refuses accepted = Unit {0}
  Refuses (refused n q) = Q n q

  pub then_refuses : (a b : Outcome) → Refuses a → Refuses b → Refuses (a then b)
  unfolding ◌then◌
  then_refuses accepted b h k = k
  then_refuses (refused n q) b h k = h

  pub if_refuses : (n q : ℕ) (b : Bool) → Q n q → Refuses (refuse_if n q b)
  unfolding refuse_if
  if_refuses n q true h = h
  if_refuses n q false h = tt

  pub at_refuses : (n start : ℕ) (bs : List Bool) → ((j : ℕ) → j < length bs → Q n (start + j)) → Refuses (refuse_at n (first_true start bs))
  unfolding refuse_at
  at_refuses n start bs h = go (first_true start bs) (first_true_lem start bs)
    where
      go : (o : Option ℕ) → FirstTrue start bs o → Refuses (refuse_at n o)
      go none k = tt
      go (some q) k = subst (Q n) (sym k.1) (h k.0 k.2)

  pub refuses_sheet : (ed : Edition) (w : List ℕ) → ((i : ℕ) → i < sheet_length ed → Q 3 i) → Refuses (sheet_test ed w)
  unfolding sheet_test refuse_at
  refuses_sheet ed w h = go (first_of (test_order ed) (map not (sheet_rules ed w))) (first_of_lem (test_order ed) (map not (sheet_rules ed w)) (omega (arith, rules_length ed w, rules_counted ed)))
    where
      go : (o : Option ℕ) → FirstAt (λ j. get_or (test_order ed) j 0) (map not (sheet_rules ed w)) o → Refuses (refuse_at 3 o)
      go none k = tt
      go (some q) k = subst (Q 3) (sym k.1) (h _ (turn_of_word ed k.0 (omega (arith, k.2, rules_length ed w))).1)

-- the refusal of an answer is that of its tests
pub finish_refusal : (Q : ℕ → ℕ → Type 0) (o : Outcome) (count n q : ℕ) (written output : List ℕ) → Refuses Q o → (finish o count written output).answer ≡ refusal n q → Q n q
unfolding finish
finish_refusal Q accepted count n q written output h e = let z : ◌≡◌ {A = ℕ} 0 1 = cc in absurd (omega arith)
finish_refusal Q (refused m r) count n q written output h e =
    let a : m ≡ n = cc in
    let b : r ≡ q = cc in
    subst (λ (x : ℕ). Q x q) a (subst (Q m) b h)

module _ (ed : Edition) (w f coins output : List ℕ) where
  pub prove_refusals : (n q : ℕ) → (prove_in ed w f coins output).answer ≡ refusal n q → ProveRefusal ed w f coins n q
  unfolding prove_in prove_tests sheet_length_test coefficients_test coins_test input_range_test coin_domain_test coin_equal_test output_test
  prove_refusals n q e =
      let Q = ProveRefusal ed w f coins in
      finish_refusal Q _ _ n q _ output
      (then_refuses Q (sheet_length_test ed w) _ (if_refuses Q 10 0 _ Faults.ProveRefusal.sheet_length_case)
      (then_refuses Q (sheet_test ed w) _ (refuses_sheet Q ed w Faults.ProveRefusal.rule_broken)
      (then_refuses Q (coefficients_test (sheet_of ed w) f) _ (if_refuses Q 10 1 _ Faults.ProveRefusal.coefficient_count)
      (then_refuses Q (coins_test (sheet_of ed w) coins) _ (if_refuses Q 10 2 _ Faults.ProveRefusal.coin_count)
      (then_refuses Q (input_range_test (sheet_of ed w) (coin_kinds (layout (sheet_of ed w))) (f ++ coins)) _
      (at_refuses Q 5 0 _ (λ j l. Faults.ProveRefusal.word_over (0 + j) (omega (arith, zip_short (out_of_range (sheet_of ed w)) (replicate (words_for (sheet_of ed w) (sheet_of ed w).degree) message ++ coin_kinds (layout (sheet_of ed w))) (f ++ coins), length-append f coins))))
      (then_refuses Q (coin_domain_test (sheet_of ed w) coins) _
      (at_refuses Q 7 0 _ (λ j l. Faults.ProveRefusal.coin_inside (0 + j) (omega (arith, zip_short (out_in_domain (sheet_of ed w).spelling (sheet_of ed w)) (coin_kinds (layout (sheet_of ed w))) (begun_by (sheet_of ed w).spelling coins), begun_length (sheet_of ed w).spelling coins))))
      (then_refuses Q (coin_equal_test (sheet_of ed w) coins) _
      (at_refuses Q 14 0 _ (λ j l. Faults.ProveRefusal.coin_equal (0 + j) (omega (arith, repeated_most (sheet_field (sheet_of ed w)) none (coin_kinds (layout (sheet_of ed w))) (begun_by (sheet_of ed w).spelling coins), begun_length (sheet_of ed w).spelling coins))))
      (if_refuses Q 11 _ _ Faults.ProveRefusal.output_short)))))))) e

module _ (w f output : List ℕ) where
  pub encode_refusals : (n q : ℕ) → (encode w f output).answer ≡ refusal n q → EncodeRefusal w f n q
  unfolding encode encode_tests sheet_length_test coefficients_test input_range_test output_test sheet_of
  encode_refusals n q e =
      let Q = EncodeRefusal w f in
      finish_refusal Q _ _ n q _ output
      (then_refuses Q (sheet_length_test edition1 w) _ (if_refuses Q 10 0 _ Faults.EncodeRefusal.sheet_length_case)
      (then_refuses Q (sheet_test edition1 w) _ (refuses_sheet Q edition1 w Faults.EncodeRefusal.rule_broken)
      (then_refuses Q (coefficients_test (sheet_of edition1 w) f) _ (if_refuses Q 10 1 _ Faults.EncodeRefusal.coefficient_count)
      (then_refuses Q (input_range_test (sheet_of edition1 w) [] f) _
      (at_refuses Q 5 0 _ (λ j l. Faults.EncodeRefusal.word_over (0 + j) (omega (arith, zip_short (out_of_range (sheet_of edition1 w)) (replicate (words_for (sheet_of edition1 w) (sheet_of edition1 w).degree) message ++ []) f))))
      (if_refuses Q 11 _ _ Faults.EncodeRefusal.output_short))))) e

-- A refusal of verify is a fault, and each fault has its range.
module _ (ed : Edition) (file : List ℕ) where
  -- an out coin of a round is among the words due
  out_below : (i j q : ℕ) → i < rounds_of (sheet_in ed file) → j < out_coin_count (sheet_in ed file) → q ≡ part_start ed (sheet_in ed file) (outs i) + words_for (sheet_in ed file) j →
      (sheet_length ed ≤ q) × (q < due_of ed (sheet_in ed file))
  unfolding part_length
  out_below i j q l u e =
      let σ = (sheet_in ed file).spelling in
      let r = part_below ed (sheet_in ed file) (outs i) l (words_for (sheet_in ed file) j) (omega (arith, count_below σ j (out_coin_count (sheet_in ed file)) u, (count_one σ).0)) in (omega (arith, e, r.0), omega (arith, e, r.1))

  fault_placed : (n q : ℕ) → Fault ed file n q → VerifyRefusal ed file n q
  fault_placed n q p = at_turn (number_turn n) refl p
    where
      named : (m : ℕ) → number_turn n ≡ number_turn m → VerifyRefusal ed file m q → VerifyRefusal ed file n q
      named m e r = subst (λ (x : ℕ). VerifyRefusal ed file x q) (sym (own_turn n m e)) r

      at_turn : (t : ℕ) → number_turn n ≡ t → get_or (faults_of ed file) t NoFault q → VerifyRefusal ed file n q
      at_turn zero e p = absurd p
      at_turn (suc zero) e p = named 1 e (subst (VerifyRefusal ed file 1) (sym p.0) Faults.VerifyRefusal.length_wrong)
      at_turn (suc (suc zero)) e p = named 2 e (Faults.VerifyRefusal.check_wrong q p.0)
      at_turn (suc (suc (suc zero))) e p = named 3 e (Faults.VerifyRefusal.rule_broken q p.0)
      at_turn (suc (suc (suc (suc zero)))) e p = named 4 e (subst (VerifyRefusal ed file 4) (sym p.0) Faults.VerifyRefusal.blocks_differ)
      at_turn (suc (suc (suc (suc (suc zero))))) e p =
          let r = part_below ed (sheet_in ed file) p.0 p.1 p.2.0 p.2.1 in
          named 5 e (Faults.VerifyRefusal.word_over q (omega (arith, p.2.2, r.0)) (omega (arith, p.2.2, r.1)))
      at_turn (suc (suc (suc (suc (suc (suc zero)))))) e p = named 6 e (Faults.VerifyRefusal.fill_set q p.0 p.1)
      at_turn (suc (suc (suc (suc (suc (suc (suc zero))))))) e p = let r = out_below p.0 p.2.0 q p.1 p.2.1 p.2.2 in named 7 e (Faults.VerifyRefusal.coin_inside q r.0 r.1)
      at_turn (suc (suc (suc (suc (suc (suc (suc (suc zero)))))))) e p = let r = out_below p.0 p.2.0 q p.1 p.2.1 p.2.2 in named 14 e (Faults.VerifyRefusal.coin_equal q r.0 r.1)
      at_turn (suc (suc (suc (suc (suc (suc (suc (suc (suc zero))))))))) e p = named 8 e (Faults.VerifyRefusal.pairs_clash q (omega (arith, p.2)) (omega (arith, p.1, p.2)))
      at_turn (suc (suc (suc (suc (suc (suc (suc (suc (suc (suc zero)))))))))) e p = named 9 e (Faults.VerifyRefusal.final_differs q p.0)
      at_turn (suc (suc (suc (suc (suc (suc (suc (suc (suc (suc (suc t))))))))))) e p = absurd p

  pub verify_refusals : (n q : ℕ) → (verify_in ed file).outcome ≡ refused n q → VerifyRefusal ed file n q
  verify_refusals n q e = fault_placed n q ((refused_exactly ed file n q).0 e).there
