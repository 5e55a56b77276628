-- The converter's tests in their order: those of reading, whose first fault verify's theorems give, and after them its own.
use Prim.Native.Nat.{ℕ, zero, suc, ◌+◌, ◌*◌, ◌<◌}
use Rattle.std.proofs.Common.{zero-add, ◌∙◌, eq-eqb, eqb-true}
use native.Mathlib.Omega.{arith}
use Rattle.std.specs.Prelude.{Bool, true, false, not, List, [], ◌∷◌, map, ◌↔◌, ◌≡◌, eqb, ltb, length, get_or}
use Rattle.std.proofs.Math.Path.{refl, sym, ap, subst}
use Rattle.std.proofs.lemmas.List.{length-map}
use Rattle.std.proofs.Math.ListN.{get_or-eq_default}
use Rattle.definition.specs.Block.{block_count, file_of, stream_of}
use Rattle.definition.specs.Convert.{backward, convert, folds_test, forward, to_edition1, to_edition2}
use Rattle.definition.specs.Lists.{first_true}
use Rattle.definition.specs.Prove.{done, output_test, refusal}
use Rattle.definition.specs.Reading.{reading}
use Rattle.definition.specs.Sheet.{Edition, Sheet, edition1, edition2, sheet_length}
use Rattle.definition.specs.Verdict.{Outcome, ◌then◌, accepted, refuse_at, refuse_if, refused}
use Rattle.list_laws.specs.Lists.{get_d_map}
use Rattle.layouts.specs.Levels.{level_of, rounds_of}
use Rattle.layouts.specs.LawfulSheets.{Paired}
use Rattle.layouts.specs.Tests.{then_passes}
use Rattle.completeness.proofs.Conversion.{backward_length, forward_length}
use Rattle.completeness.proofs.Converter.{folds_exactly}
use Rattle.completeness.specs.Faults.{Fault, NoFault, number_turn, sheet_in, turn_of}
use Rattle.completeness.specs.FirstFaults.{exact_at, exact_if, exact_none}
use Rattle.completeness.specs.PartsByNumber.{due_is}
use Rattle.completeness.proofs.SameVerdict.{ordered}
use Rattle.completeness.specs.TestsByNumber.{differ, differs}
use Rattle.completeness.proofs.TwoSteps.{reading_accepted_exactly, reading_refused_exactly}
use Rattle.completeness.proofs.VerifyExactly.{is_true, then_accepted, then_assoc}
use Rattle.refusals.specs.CountsAndRules.{blocks_complete, blocks_sound}
use Rattle.refusals.proofs.InOrder.{ExactRow, FaultOf, answer_done, answer_refused, named, named_at, named_if, next, number_of, own, place_turn, row_accepted}
use Rattle.refusals.specs.InputFaults.{FirstFailure, FoldFault, NoFailure, OutputFault, Test, blocks_due, reading_row, test, test_at, to_edition1_row, to_edition2_row}

-- the numbers of reading go up from 1, its turns from 0
turned : Outcome → Outcome
turned accepted = accepted
turned (refused zero q) = refused zero q
turned (refused (suc n) q) = refused n q

small_turn : (n : ℕ) → n < 6 → number_turn (suc n) ≡ suc n
small_turn zero l = refl
small_turn (suc zero) l = refl
small_turn (suc (suc zero)) l = refl
small_turn (suc (suc (suc zero))) l = refl
small_turn (suc (suc (suc (suc zero)))) l = refl
small_turn (suc (suc (suc (suc (suc zero))))) l = refl
small_turn (suc (suc (suc (suc (suc (suc n)))))) l = absurd (omega arith)

module _ (ed : Edition) (file : List ℕ) (after : List Test) where
  abbrev tests : List Test
  tests = reading_row ed file after

  abbrev P : ℕ → (ℕ → Type 0)
  P = FaultOf ed (reading_row ed file after)

  abbrev T : ℕ → ℕ → ℕ
  T = place_turn ed (reading_row ed file after)

  -- the first six tests are those of verify
  verify_test : (t : ℕ) → t < 6 → test_at (reading_row ed file after) t ≡ test (suc t) (Fault ed file (suc t))
  verify_test zero l = refl
  verify_test (suc zero) l = refl
  verify_test (suc (suc zero)) l = refl
  verify_test (suc (suc (suc zero))) l = refl
  verify_test (suc (suc (suc (suc zero)))) l = refl
  verify_test (suc (suc (suc (suc (suc zero))))) l = refl
  verify_test (suc (suc (suc (suc (suc (suc t)))))) l = absurd (omega arith)

  to_verify : (t q : ℕ) → t < 6 → P t q → Fault ed file (suc t) q
  to_verify t q l p = subst (λ (x : Test). x.Fault q) (verify_test t l) p

  of_verify : (t q : ℕ) → t < 6 → Fault ed file (suc t) q → P t q
  of_verify t q l p = subst (λ (x : Test). x.Fault q) (sym (verify_test t l)) p

  number_is : (t : ℕ) → t < 6 → number_of ed (reading_row ed file after) t ≡ suc t
  number_is t l = ap (λ (x : Test). x.number) (verify_test t l)

  no_zero : (q : ℕ) → Fault ed file 0 q → ⊥
  no_zero q p = p

  reading_named : named (number_of ed (reading_row ed file after)) (turned (reading ed file)) ≡ reading ed file
  unfolding named turned
  reading_named = go (reading ed file) refl
    where
      go : (o : Outcome) → reading ed file ≡ o → named (number_of ed tests) (turned o) ≡ o
      go accepted e = refl
      go (refused zero q) e = absurd (no_zero q ((reading_refused_exactly ed file 0 q).0 e).1.there)
      go (refused (suc n) q) e = let l : n < 6 = omega (arith, ((reading_refused_exactly ed file (suc n) q).0 e).0) in ap (λ (m : ℕ). refused m q) (number_is n l)

  reading_exact : (rest : Outcome) → (reading ed file ≡ accepted → ExactRow ed (reading_row ed file after) 7 rest) →
      ExactRow ed (reading_row ed file after) 1 (turned (reading ed file) then rest)
  unfolding turned ◌then◌
  reading_exact rest more = go (reading ed file) refl
    where
      go : (o : Outcome) → reading ed file ≡ o → ExactRow ed tests 1 (turned o then rest)
      go accepted e =
          let clear : (t : ℕ) → t < 6 → (q : ℕ) → P t q → ⊥ = λ t l q p. (reading_accepted_exactly ed file).0 e (suc t) q (omega arith) (to_verify t q l p) in
          exact_none P T suc own 0 rest (clear 0 (omega arith)) (exact_none P T suc own 1 rest (clear 1 (omega arith)) (exact_none P T suc own 2 rest (clear 2 (omega arith))
          (exact_none P T suc own 3 rest (clear 3 (omega arith)) (exact_none P T suc own 4 rest (clear 4 (omega arith)) (exact_none P T suc own 5 rest (clear 5 (omega arith)) (more e))))))
      go (refused zero q) e = absurd (no_zero q ((reading_refused_exactly ed file 0 q).0 e).1.there)
      go (refused (suc n) q) e =
          let r = (reading_refused_exactly ed file (suc n) q).0 e in
          let l : n < 6 = omega (arith, r.0) in (
            omega arith,
            of_verify n q l r.1.there,
            λ x u p. r.1.place_first x (subst (λ (m : ℕ). turn_of ed m x < turn_of ed m q) (number_is n l) u) (to_verify n x l p),
            λ m x a u p. let v : m < 6 = omega (arith, u) in r.1.number_first (suc m) x (omega (arith, u, small_turn m v, small_turn n l)) (to_verify m x v p),
          )

  -- the sheet's words have the places of its rules
  sheet_places : ((t : ℕ) → (test_at after t).number ≡ 3 → ⊥) → (t q : ℕ) → number_of ed (reading_row ed file after) t ≡ 3 → P t q → q < sheet_length ed
  sheet_places other zero q e p = absurd (omega arith)
  sheet_places other (suc zero) q e p = absurd (omega arith)
  sheet_places other (suc (suc zero)) q e p = p.0
  sheet_places other (suc (suc (suc zero))) q e p = absurd (omega arith)
  sheet_places other (suc (suc (suc (suc zero)))) q e p = absurd (omega arith)
  sheet_places other (suc (suc (suc (suc (suc zero))))) q e p = absurd (omega arith)
  sheet_places other (suc (suc (suc (suc (suc (suc t)))))) q e p = absurd (other t e)

-- ---- to edition 2

module _ (file output : List ℕ) where
  -- the test after those of reading
  abbrev after2 : List Test
  after2 = test 11 (OutputFault (blocks_due edition2 (sheet_in edition1 file)) (512 * blocks_due edition2 (sheet_in edition1 file)) output) ∷ []

  abbrev words2 : List ℕ
  words2 = forward (stream_of file)

  abbrev due2 : ℕ
  due2 = block_count (length (forward (stream_of file)))

  due_2 : reading edition1 file ≡ accepted → due2 ≡ blocks_due edition2 (sheet_in edition1 file)
  due_2 read = ap block_count (forward_length file read ∙ due_is edition2 (sheet_in edition1 file) (ordered edition1 file read).long)

  abbrev row2 : Outcome
  row2 = turned (reading edition1 file) then refuse_if 6 due2 (ltb (length output) (512 * due2)) then accepted

  abbrev tests2 : Outcome
  tests2 = reading edition1 file then output_test due2 (512 * due2) (length output)

  same_2 : named (number_of edition1 (to_edition2_row file output)) row2 ≡ tests2
  unfolding output_test
  same_2 =
      let N = number_of edition1 (to_edition2_row file output) in
      next N _ _ _ _ (reading_named edition1 file after2) (ap (named N) (sym (then_accepted (refuse_if 6 due2 (ltb (length output) (512 * due2))))) ∙ named_if N 6 due2 _)

  exact_2 : ExactRow edition1 (to_edition2_row file output) 1 row2
  exact_2 =
      reading_exact edition1 file after2 _ (λ read.
      exact_if (FaultOf edition1 (to_edition2_row file output)) (place_turn edition1 (to_edition2_row file output)) suc own 6 due2 (ltb (length output) (512 * due2)) accepted
      (blocks_sound due2 (blocks_due edition2 (sheet_in edition1 file)) output (due_2 read)) (blocks_complete due2 (blocks_due edition2 (sheet_in edition1 file)) output (due_2 read))
      (λ clear t q l p. subst (λ (x : Test). x.Fault q) (get_or-eq_default (to_edition2_row file output) (test 0 NoFault) {n = t} (omega arith)) p))

  other_2 : (t : ℕ) → (test_at after2 t).number ≡ 3 → ⊥
  other_2 zero e = omega arith
  other_2 (suc t) e = omega arith

  pub to_2_refused_exactly : (n q : ℕ) → ((to_edition2 file output).answer ≡ refusal n q) ↔ FirstFailure edition1 (to_edition2_row file output) n q
  unfolding to_edition2 convert
  to_2_refused_exactly = answer_refused edition1 (to_edition2_row file output) tests2 row2 same_2 exact_2 (sheet_places edition1 file after2 other_2) due2 (file_of words2) output

  passed_2 : NoFailure (to_edition2_row file output) → reading edition1 file ≡ accepted
  passed_2 k = (then_passes (reading edition1 file) _ ((row_accepted edition1 (to_edition2_row file output) tests2 row2 same_2 exact_2 (sheet_places edition1 file after2 other_2)).1 k)).0

  pub to_2_done_exactly : (n : ℕ) → ((to_edition2 file output).answer ≡ done n) ↔ ((n ≡ blocks_due edition2 (sheet_in edition1 file)) × NoFailure (to_edition2_row file output))
  unfolding to_edition2 convert
  to_2_done_exactly =
      answer_done edition1 (to_edition2_row file output) tests2 row2 same_2 exact_2 (sheet_places edition1 file after2 other_2) due2 (file_of words2) output (blocks_due edition2 (sheet_in edition1 file))
      (λ k. due_2 (passed_2 k))

-- ---- to edition 1

module _ (h : Sheet) (long : Paired h) where
  abbrev folding : List Bool
  folding = map (λ k. not (eqb k (get_or h.folds 0 0))) h.folds

  folding_length : length folding ≡ suc (rounds_of h)
  folding_length = length-map h.folds _ ∙ sym long.some

  fold_at : (j : ℕ) → j < length folding → get_or folding j false ≡ not (eqb (level_of h j).fold (level_of h 0).fold)
  fold_at j l = get_d_map (λ (k : ℕ). not (eqb k (get_or h.folds 0 0))) h.folds 0 false j (omega (arith, folding_length, long.some))

  fold_sound : (j : ℕ) → j < length folding → get_or folding j false ≡ true → FoldFault h (0 + j)
  fold_sound j l e = subst (FoldFault h) (sym (zero-add j)) (omega (arith, folding_length), differ _ _ (sym (fold_at j l) ∙ e))

  fold_complete : (q : ℕ) → FoldFault h q → (j : ℕ) × (q ≡ 0 + j) × (j < length folding) × (get_or folding j false ≡ true)
  fold_complete q p = let l : q < length folding = omega (arith, p.0, folding_length) in (q, sym (zero-add q), l, fold_at q l ∙ differs _ _ p.1)

  -- without such a fault the test passes
  folds_pass : ((q : ℕ) → FoldFault h q → ⊥) → folds_test h ≡ accepted
  folds_pass clear = (folds_exactly h).1 (λ i l. eqb-true _ _ (is_true _ (λ k. clear i (omega (arith, long.some), λ e. k (eq-eqb _ _ e)))))

module _ (file output : List ℕ) where
  abbrev h : Sheet
  h = sheet_in edition2 file

  -- the tests after those of reading
  abbrev after1 : List Test
  after1 = test 13 (FoldFault (sheet_in edition2 file)) ∷ test 11 (OutputFault (blocks_due edition1 (sheet_in edition2 file)) (512 * blocks_due edition1 (sheet_in edition2 file)) output) ∷ []

  abbrev words1 : List ℕ
  words1 = backward (stream_of file)

  abbrev due1 : ℕ
  due1 = block_count (length (backward (stream_of file)))

  abbrev equals : List Bool
  equals = map (λ k. not (eqb k (get_or (sheet_in edition2 file).folds 0 0))) (sheet_in edition2 file).folds

  paired : reading edition2 file ≡ accepted → Paired h
  paired read = (ordered edition2 file read).long

  due_1 : (read : reading edition2 file ≡ accepted) → ((q : ℕ) → FoldFault h q → ⊥) → due1 ≡ blocks_due edition1 (sheet_in edition2 file)
  due_1 read clear = ap block_count (backward_length file read (folds_pass h (paired read) clear) ∙ due_is edition1 h (paired read))

  abbrev row1 : Outcome
  row1 = turned (reading edition2 file) then refuse_at 6 (first_true 0 equals) then refuse_if 7 due1 (ltb (length output) (512 * due1)) then accepted

  abbrev tests1 : Outcome
  tests1 = (reading edition2 file then folds_test (sheet_in edition2 file)) then output_test due1 (512 * due1) (length output)

  same_1 : named (number_of edition2 (to_edition1_row file output)) row1 ≡ tests1
  unfolding output_test folds_test
  same_1 =
      let N = number_of edition2 (to_edition1_row file output) in
      next N _ _ _ _ (reading_named edition2 file after1) (next N _ _ _ _ (named_at N 6 _)
      (ap (named N) (sym (then_accepted (refuse_if 7 due1 (ltb (length output) (512 * due1))))) ∙ named_if N 7 due1 _))
      ∙ sym (then_assoc (reading edition2 file) (folds_test h) (output_test due1 (512 * due1) (length output)))

  exact_1 : ExactRow edition2 (to_edition1_row file output) 1 row1
  unfolding turn_of
  exact_1 =
      let P₁ = FaultOf edition2 (to_edition1_row file output) in
      let T₁ = place_turn edition2 (to_edition1_row file output) in
      let due = blocks_due edition1 (sheet_in edition2 file) in
      reading_exact edition2 file after1 _ (λ read.
      exact_at P₁ T₁ suc own 6 0 equals _ (λ q. refl) (fold_sound h (paired read)) (fold_complete h (paired read)) (λ clear.
      exact_if P₁ T₁ suc own 7 due1 (ltb (length output) (512 * due1)) accepted
      (blocks_sound due1 due output (due_1 read clear)) (blocks_complete due1 due output (due_1 read clear))
      (λ none t q l p. subst (λ (x : Test). x.Fault q) (get_or-eq_default (to_edition1_row file output) (test 0 NoFault) {n = t} (omega arith)) p)))

  other_1 : (t : ℕ) → (test_at after1 t).number ≡ 3 → ⊥
  other_1 zero e = omega arith
  other_1 (suc zero) e = omega arith
  other_1 (suc (suc t)) e = omega arith

  pub to_1_refused_exactly : (n q : ℕ) → ((to_edition1 file output).answer ≡ refusal n q) ↔ FirstFailure edition2 (to_edition1_row file output) n q
  unfolding to_edition1 convert
  to_1_refused_exactly = answer_refused edition2 (to_edition1_row file output) tests1 row1 same_1 exact_1 (sheet_places edition2 file after1 other_1) due1 (file_of words1) output

  passed_1 : NoFailure (to_edition1_row file output) → reading edition2 file ≡ accepted
  passed_1 k =
      let both = (row_accepted edition2 (to_edition1_row file output) tests1 row1 same_1 exact_1 (sheet_places edition2 file after1 other_1)).1 k in
      (then_passes (reading edition2 file) _ (then_passes (reading edition2 file then folds_test h) _ both).0).0

  pub to_1_done_exactly : (n : ℕ) → ((to_edition1 file output).answer ≡ done n) ↔ ((n ≡ blocks_due edition1 (sheet_in edition2 file)) × NoFailure (to_edition1_row file output))
  unfolding to_edition1 convert
  to_1_done_exactly =
      answer_done edition2 (to_edition1_row file output) tests1 row1 same_1 exact_1 (sheet_places edition2 file after1 other_1) due1 (file_of words1) output (blocks_due edition1 (sheet_in edition2 file))
      (λ k. due_1 (passed_1 k) (λ q p. k 6 q p))
