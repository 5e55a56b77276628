-- Refusal 3 of verify, prove and encode: the tests before it pass, and the place is the first sheet word that breaks its rule.
use Rattle.std.specs.Prelude.{ℕ, zero, suc, ◌%◌, ◌≤◌, ◌<◌, true, false, not, List, [], ◌++◌, ◌↔◌, ◌≡◌, eqb, get_or}
use Rattle.std.proofs.Math.Decide.{dec_lt}
use Rattle.std.proofs.Common.{arith, ◌∙◌, subst, eq-eqb, eqb-true}
use Rattle.std.proofs.Math.Path.{refl, sym, ap}
use Rattle.std.proofs.Math.ListN.{length}
use Rattle.definition.specs.Block.{block_count, file_of, stream_of}
use Rattle.definition.specs.Field.{word_count}
use Rattle.definition.specs.Layout.{Kind, coin_kinds, layout, words_due}
use Rattle.definition.specs.Prove.{coefficients_test, coin_domain_test, coin_equal_test, coins_test, encode, encode_tests, finish, input_range_test, output_test, prove_in, prove_tests, refusal, sheet_length_test}
use Rattle.definition.specs.Prover.{honest_stream, table_words}
use Rattle.definition.specs.Reading.{sheet_test}
use Rattle.definition.specs.Sheet.{Edition, Sheet, edition1, sheet_length, sheet_of}
use Rattle.definition.specs.Verdict.{Outcome, ◌then◌, accepted, refused}
use Rattle.definition.specs.Verify.{verify_in}
use Rattle.layouts.specs.Tests.{if_false}
use Rattle.completeness.proofs.AcceptedExactly
use Rattle.completeness.proofs.Allowed.{sheet_long}
use Rattle.completeness.proofs.Answers.{Refuses, at_refuses, if_refuses, then_refuses}
use Rattle.completeness.specs.Faults.{Fault, NoFault, RightCheck, blocks_in, faults_of, number_turn, turn_of}
use Rattle.completeness.proofs.VerifyExactly.{is_true}
use Rattle.sheet_laws.proofs.SheetExactly
use Rattle.sheet_laws.specs.WordRules.{FirstBroken}

-- prove and encode: the sheet's length and its rules, then tests that refuse with another number
abbrev Other : ℕ → ℕ → Type 0
Other n q = n ≡ 3 → ⊥

never : (o : Outcome) (p : ℕ) → Refuses Other o → o ≡ refused 3 p → ⊥
never o p h e = subst (Refuses Other) e h refl

length_passes : (ed : Edition) (w : List ℕ) → length w ≡ sheet_length ed → sheet_length_test ed w ≡ accepted
unfolding sheet_length_test
length_passes ed w l = if_false 10 0 _ (ap not (eq-eqb (length w) (sheet_length ed) l))

length_other : (ed : Edition) (w : List ℕ) → Refuses Other (sheet_length_test ed w)
unfolding sheet_length_test
length_other ed w = if_refuses Other 10 0 _ (λ e. absurd (omega arith))

coefficients_other : (h : Sheet) (f : List ℕ) → Refuses Other (coefficients_test h f)
unfolding coefficients_test
coefficients_other h f = if_refuses Other 10 1 _ (λ e. absurd (omega arith))

range_other : (h : Sheet) (ks : List Kind) (w : List ℕ) → Refuses Other (input_range_test h ks w)
unfolding input_range_test
range_other h ks w = at_refuses Other 5 0 _ (λ j l e. absurd (omega arith))

output_other : (due need have : ℕ) → Refuses Other (output_test due need have)
unfolding output_test
output_other due need have = if_refuses Other 11 due _ (λ e. absurd (omega arith))

prove_other : (ed : Edition) (h : Sheet) (f coins output : List ℕ) → Refuses Other (prove_tests ed h f coins output)
unfolding prove_tests coins_test coin_domain_test coin_equal_test
prove_other ed h f coins output =
    then_refuses Other (coefficients_test h f) _ (coefficients_other h f)
    (then_refuses Other (coins_test h coins) _ (if_refuses Other 10 2 _ (λ e. absurd (omega arith)))
    (then_refuses Other (input_range_test h (coin_kinds (layout h)) (f ++ coins)) _ (range_other h (coin_kinds (layout h)) (f ++ coins))
    (then_refuses Other (coin_domain_test h coins) _ (at_refuses Other 7 0 _ (λ j l e. absurd (omega arith)))
    (then_refuses Other (coin_equal_test h coins) _ (at_refuses Other 14 0 _ (λ j l e. absurd (omega arith))) (output_other _ _ (length output))))))

encode_other : (h : Sheet) (f output : List ℕ) → Refuses Other (encode_tests h f output)
unfolding encode_tests
encode_other h f output =
    then_refuses Other (coefficients_test h f) _ (coefficients_other h f) (then_refuses Other (input_range_test h [] f) _ (range_other h [] f) (output_other _ _ (length output)))

module _ (ed : Edition) (w : List ℕ) where
  tests_exactly : (rest : Outcome) → Refuses Other rest → (p : ℕ) → ((sheet_length_test ed w then sheet_test ed w then rest) ≡ refused 3 p) ↔ ((length w ≡ sheet_length ed) × FirstBroken ed w p)
  unfolding ◌then◌
  tests_exactly rest others p = (
    λ e. let l = long (sheet_length_test ed w) refl e in (l, (SheetExactly.refused_exactly ed w p).0 (own (sheet_test ed w) refl (passed l ∙ e))),
    λ h. sym (passed h.0) ∙ ap (λ (o : Outcome). o then rest) ((SheetExactly.refused_exactly ed w p).1 h.1),
  )
    where
      passed : length w ≡ sheet_length ed → (sheet_test ed w then rest) ≡ (sheet_length_test ed w then sheet_test ed w then rest)
      passed l = ap (λ (o : Outcome). o then sheet_test ed w then rest) (sym (length_passes ed w l))

      long : (o : Outcome) → sheet_length_test ed w ≡ o → (o then sheet_test ed w then rest) ≡ refused 3 p → length w ≡ sheet_length ed
      long accepted e k = sheet_long ed w e
      long (refused n q) e k = absurd (never (sheet_length_test ed w) p (length_other ed w) (e ∙ k))

      own : (o : Outcome) → sheet_test ed w ≡ o → (o then rest) ≡ refused 3 p → sheet_test ed w ≡ refused 3 p
      own accepted e k = absurd (never rest p others k)
      own (refused n q) e k = e ∙ k

-- an answer is the refusal of its tests
finish_exactly : (o : Outcome) (count n p : ℕ) (written output : List ℕ) → ((finish o count written output).answer ≡ refusal n p) ↔ (o ≡ refused n p)
unfolding finish
finish_exactly accepted count n p written output = (
  λ e. let z : ◌≡◌ {A = ℕ} 0 1 = cc in absurd (omega arith),
  λ e. let z : ◌≡◌ {A = ℕ} 0 1 = cc in absurd (omega arith),
)
finish_exactly (refused m q) count n p written output = (
  λ e. let a : m ≡ n = cc in
      let b : q ≡ p = cc in
      (λ i. refused (a i) (b i)),
  λ e. let a : m ≡ n = cc in
      let b : q ≡ p = cc in
      (λ i. refusal (a i) (b i)),
)

pub prove_refuses : (ed : Edition) (w f coins output : List ℕ) (p : ℕ) → ((prove_in ed w f coins output).answer ≡ refusal 3 p) ↔ ((length w ≡ sheet_length ed) × FirstBroken ed w p)
unfolding prove_in
prove_refuses ed w f coins output p =
    let a = finish_exactly (sheet_length_test ed w then sheet_test ed w then prove_tests ed (sheet_of ed w) f coins output) (block_count (words_due ed (sheet_of ed w))) 3 p (file_of (honest_stream ed w f coins)) output in
    let b = tests_exactly ed w (prove_tests ed (sheet_of ed w) f coins output) (prove_other ed (sheet_of ed w) f coins output) p in
    (λ e. b.0 (a.0 e), λ h. a.1 (b.1 h))

pub encode_refuses : (w f output : List ℕ) (p : ℕ) → ((encode w f output).answer ≡ refusal 3 p) ↔ ((length w ≡ 12) × FirstBroken edition1 w p)
unfolding encode
encode_refuses w f output p =
    let h = sheet_of edition1 w in
    let a = finish_exactly (sheet_length_test edition1 w then sheet_test edition1 w then encode_tests (sheet_of edition1 w) f output) (word_count h.spelling h.size) 3 p (table_words (sheet_of edition1 w) f) output in
    let b = tests_exactly edition1 w (encode_tests (sheet_of edition1 w) f output) (encode_other (sheet_of edition1 w) f output) p in
    (λ e. b.0 (a.0 e), λ h. a.1 (b.1 h))

-- Verify: a length and block checks without a fault, then the sheet's first.
module _ (ed : Edition) (file : List ℕ) where
  abbrev Whole : Type 0
  Whole = (1 ≤ length file) × (length file % 512 ≡ 0) × ((b : ℕ) → b < blocks_in file → RightCheck file b)

  -- what is not false of numbers is true
  not_differ : (x y : ℕ) → ((x ≡ y → ⊥) → ⊥) → x ≡ y
  not_differ x y h = eqb-true x y (is_true (eqb x y) (λ k. h (λ e. k (eq-eqb x y e))))

  -- no fault of a length or a check
  whole_exactly : ((m r : ℕ) → number_turn m < 3 → Fault ed file m r → ⊥) ↔ Whole
  whole_exactly = (
    λ h. (
      some (dec_lt 0 (length file)) (λ k. h 1 0 (omega arith) (refl, λ g. k g.0)),
      not_differ _ _ (λ k. h 1 0 (omega arith) (refl, λ g. k g.1)),
      λ b l. not_differ _ _ (λ k. h 2 b (omega arith) (l, k)),
    ),
    λ g m r l. none g (number_turn m) l r,
  )
    where
      some : Dec (0 < length file) → ((1 ≤ length file → ⊥) → ⊥) → 1 ≤ length file
      some (yes l) h = omega arith
      some (no l) h = absurd (h (λ k. omega arith))

      none : Whole → (t : ℕ) → t < 3 → (r : ℕ) → get_or (faults_of ed file) t NoFault r → ⊥
      none g zero l r x = x
      none g (suc zero) l r x = x.1 (g.0, g.1)
      none g (suc (suc zero)) l r x = x.1 (g.2 r x.0)
      none g (suc (suc (suc t))) l r x = absurd (omega arith)

  -- each way by itself
  pub first_broken : (p : ℕ) → (verify_in ed file).outcome ≡ refused 3 p →
      (1 ≤ length file) × (length file % 512 ≡ 0) × ((b : ℕ) → b < blocks_in file → RightCheck file b) × FirstBroken ed (stream_of file) p
  unfolding turn_of
  first_broken p e =
      let a = AcceptedExactly.refused_exactly ed file 3 p in
      let b = SheetExactly.first_exactly ed (stream_of file) p in
      let f = a.0 e in
      let g = whole_exactly.0 f.number_first in
      (g.0, g.1, g.2, b.0 (f.there.0, f.there.1, λ i l u. is_true _ (λ k. f.place_first i u (l, k))))

  pub broken_first : (p : ℕ) → 1 ≤ length file → length file % 512 ≡ 0 → ((b : ℕ) → b < blocks_in file → RightCheck file b) → FirstBroken ed (stream_of file) p → (verify_in ed file).outcome ≡ refused 3 p
  unfolding turn_of
  broken_first p some whole right first =
      let a = AcceptedExactly.refused_exactly ed file 3 p in
      let b = SheetExactly.first_exactly ed (stream_of file) p in
      let k = b.1 first in
      a.1 (record {
        there = (k.0, k.1);
        place_first = λ r u x. x.1 (k.2 r x.0 u);
        number_first = whole_exactly.1 (some, whole, right);
      })

  pub verify_refuses : (p : ℕ) → ((verify_in ed file).outcome ≡ refused 3 p)
      ↔ ((1 ≤ length file) × (length file % 512 ≡ 0) × ((b : ℕ) → b < blocks_in file → RightCheck file b) × FirstBroken ed (stream_of file) p)
  verify_refuses p = (λ e. let k = first_broken p e in (k.0, k.1, k.2, k.3), λ h. broken_first p h.0 h.1 h.2 h.3)
