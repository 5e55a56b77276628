-- Verify in two steps: reading, and deciding of any file. Which refusals each gives, and that both in turn are verify.
use Rattle.std.specs.Prelude.{ℕ, suc, ◌+◌, ◌/◌, ◌≤◌, ◌<◌, Bool, cond, List, ◌↔◌, ◌≡◌, refl, eqb, ltb}
use native.Mathlib.Omega.{arith}
use Rattle.std.proofs.Math.Bool.{true, false}
use Rattle.std.proofs.Common.{sym, subst, ◌∙◌, eqb-true, ltb-false}
use Rattle.std.proofs.Math.Path.{ap}
use Rattle.std.proofs.Math.ListN.{length}
use Rattle.definition.specs.Block.{stream_of}
use Rattle.definition.specs.Deciding.{Decision, Function, Place, answers, counted, decide, decide_final, decide_rest, deciding, equal_test, out_test, out_tests}
use Rattle.definition.specs.Field.{Field}
use Rattle.definition.specs.Layout.{layout}
use Rattle.definition.specs.Polynomial.{clash}
use Rattle.definition.specs.Reading.{blocks_test, body_tests, check_test, fill_test, length_test, range_test, reading, sheet_test, stream_tests}
use Rattle.definition.specs.Sheet.{Edition, Level, sheet_length, sheet_of}
use Rattle.definition.specs.Transcript.{Rest, final, round}
use Rattle.definition.specs.Verdict.{Outcome, Verdict, ◌then◌, accepted, refused, then_verdict}
use Rattle.definition.specs.Verify.{decide_file, verify_in}
use Rattle.completeness.proofs.AcceptedExactly.{refused_exactly}
use Rattle.completeness.proofs.Answers.{Refuses, at_refuses, if_refuses, refuses_sheet, then_refuses, verify_refusals}
use Rattle.completeness.specs.Faults.{Fault, FirstFault, VerifyRefusal, number_turn, turn_of}
use Rattle.completeness.specs.FirstFaults.{accepted_then}
use Rattle.completeness.proofs.VerifyExactly.{apart, exact, numbered, own_turn}

-- a refusal before comes again
twice : (o : Outcome) (v : Verdict) → then_verdict o (then_verdict o v) ≡ then_verdict o v
unfolding then_verdict
twice accepted v = refl
twice (refused n q) v = refl

then_refused : (Q : ℕ → ℕ → Type 0) (o : Outcome) (v : Verdict) → Refuses Q o → Refuses Q v.outcome → Refuses Q (then_verdict o v).outcome
unfolding then_verdict
then_refused Q accepted v h k = k
then_refused Q (refused n q) v h k = h

refused_number : (Q : ℕ → ℕ → Type 0) (o : Outcome) (n q : ℕ) → Refuses Q o → o ≡ refused n q → Q n q
refused_number Q o n q h e = subst (Refuses Q) e h

-- a number of reading, and one of deciding
abbrev Early : ℕ → ℕ → Type 0
Early n q = n ≤ 6

abbrev Late : ℕ → ℕ → Type 0
Late n q = 7 ≤ n

-- the numbers of reading have the earlier turns
early_turn : (n m : ℕ) → n ≤ 6 → 7 ≤ m → number_turn n < number_turn m
early_turn n m l u = go (eqb n 14) (ltb n 8) (eqb m 14) (ltb m 8) refl refl refl refl
  where
    go : (a b c d : Bool) → eqb n 14 ≡ a → ltb n 8 ≡ b → eqb m 14 ≡ c → ltb m 8 ≡ d → cond a 8 (cond b n (suc n)) < cond c 8 (cond d m (suc m))
    go true b c d p q r s = absurd (omega (arith, eqb-true n 14 p))
    go false false c d p q r s = absurd (omega (arith, ltb-false n 8 q))
    go false true true d p q r s = omega arith
    go false true false true p q r s = omega arith
    go false true false false p q r s = omega arith

module _ {A : Type 0} (F : Field A) (ω : A) where
  late_rest : (b : Level) (f : Function A) (r : A) (used : List Place) (τ : Rest A) → Refuses Late (decide_rest F ω b f r used τ).outcome
  unfolding decide_rest decide_final
  late_rest b f r used (final cs js) = at_refuses Late 9 0 _ (λ j l. omega arith)
  late_rest b f r used (round ρ rest) =
      go (clash F (answers F ω b f.value r ρ)) _ _ (let l : 7 ≤ 8 = omega arith in l) (late_rest ρ.coins.level _ ρ.coins.fold _ rest)
    where
      go : (c : Bool) (x y : Decision) → Refuses Late x.outcome → Refuses Late y.outcome → Refuses Late (cond c x y).outcome
      go true x y h k = h
      go false x y h k = k

module _ (ed : Edition) (file : List ℕ) where
  early : Refuses Early (reading ed file)
  unfolding reading length_test check_test stream_tests body_tests blocks_test range_test fill_test
  early =
      let w = stream_of file in
      let h = sheet_of ed w in
      then_refuses Early (length_test file) _ (if_refuses Early 1 0 _ (omega arith))
      (then_refuses Early (check_test file) _ (at_refuses Early 2 0 _ (λ j l. omega arith))
      (then_refuses Early (sheet_test ed w) _ (refuses_sheet Early ed w (λ i l. omega arith))
      (then_refuses Early (blocks_test (sheet_length ed + length (layout h)) (length file / 512)) _ (if_refuses Early 4 _ _ (omega arith))
      (then_refuses Early (range_test h (sheet_length ed) (layout h) w) _ (at_refuses Early 5 _ _ (λ j l. omega arith)) (at_refuses Early 6 _ _ (λ j l. omega arith))))))

  late : Refuses Late (deciding ed (stream_of file)).outcome
  unfolding deciding out_tests out_test equal_test decide counted
  late =
      let w = stream_of file in
      let h = sheet_of ed w in
      then_refused Late (out_tests h (sheet_length ed) (layout h) w) _
      (then_refuses Late (out_test h (sheet_length ed) (layout h) w) _ (at_refuses Late 7 _ _ (λ j l. omega arith)) (at_refuses Late 14 _ _ (λ j l. omega arith)))
      (late_rest _ _ _ _ _ _ _)

  pub two_steps : then_verdict (reading ed file) (decide_file ed file) ≡ verify_in ed file
  unfolding decide_file verify_in
  two_steps = twice (reading ed file) (deciding ed (stream_of file))

  pub decide_refused : (n q : ℕ) → reading ed file ≡ refused n q → decide_file ed file ≡ record { outcome = refused n q; reads = 0 }
  unfolding decide_file then_verdict
  decide_refused n q e = rw e

  -- verify's outcome by that of reading
  verify_by : (o : Outcome) → reading ed file ≡ o → (verify_in ed file).outcome ≡ (then_verdict o (deciding ed (stream_of file))).outcome
  unfolding verify_in
  verify_by o e = ap (λ (x : Outcome). (then_verdict x (deciding ed (stream_of file))).outcome) e

  says_early : (n q : ℕ) → reading ed file ≡ refused n q → (verify_in ed file).outcome ≡ refused n q
  unfolding then_verdict
  says_early n q e = verify_by (refused n q) e

  says_late : reading ed file ≡ accepted → (verify_in ed file).outcome ≡ (deciding ed (stream_of file)).outcome
  unfolding then_verdict
  says_late e = verify_by accepted e

  late_number : (n q : ℕ) → reading ed file ≡ accepted → (verify_in ed file).outcome ≡ refused n q → 7 ≤ n
  late_number n q e v = refused_number Late (deciding ed (stream_of file)).outcome n q late (sym (says_late e) ∙ v)

  pub decide_refusals : (n q : ℕ) → reading ed file ≡ accepted → (decide_file ed file).outcome ≡ refused n q → (7 ≤ n) × VerifyRefusal ed file n q
  unfolding decide_file verify_in
  decide_refusals n q e v = (late_number n q e v, verify_refusals ed file n q v)

  pub reading_refused_exactly : (n q : ℕ) → (reading ed file ≡ refused n q) ↔ ((n ≤ 6) × FirstFault ed file n q)
  reading_refused_exactly n q = (
    λ e. (refused_number Early (reading ed file) n q early e, (refused_exactly ed file n q).0 (says_early n q e)),
    λ k. go (reading ed file) refl k.0 ((refused_exactly ed file n q).1 k.1),
  )
    where
      go : (o : Outcome) → reading ed file ≡ o → n ≤ 6 → (verify_in ed file).outcome ≡ refused n q → reading ed file ≡ refused n q
      go accepted e l v = absurd (omega (arith, late_number n q e v))
      go (refused m r) e l v = e ∙ (sym (says_early m r e) ∙ v)

  pub reading_accepted_exactly : (reading ed file ≡ accepted) ↔ ((n q : ℕ) → n ≤ 6 → Fault ed file n q → ⊥)
  reading_accepted_exactly = (λ e n q l p. none (verify_in ed file).outcome refl e n q l p, λ k. go (reading ed file) refl k)
    where
      none : (o : Outcome) → (verify_in ed file).outcome ≡ o → reading ed file ≡ accepted → (n q : ℕ) → n ≤ 6 → Fault ed file n q → ⊥
      none accepted v e n q l p = accepted_then (Fault ed file) (turn_of ed) number_turn own_turn (verify_in ed file).outcome (exact ed file) (numbered ed file) (apart ed file) v n q p
      none (refused m r) v e n q l p = ((refused_exactly ed file m r).0 v).number_first n q (early_turn n m l (late_number m r e v)) p

      go : (o : Outcome) → reading ed file ≡ o → ((n q : ℕ) → n ≤ 6 → Fault ed file n q → ⊥) → reading ed file ≡ accepted
      go accepted e k = e
      go (refused n q) e k = let r = (reading_refused_exactly n q).0 e in absurd (k n q r.0 r.1.there)
