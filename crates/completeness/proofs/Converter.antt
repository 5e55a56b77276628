-- The converter's operations: when they are done, what they write, and that a file converted there and back is the file again.
use Rattle.std.specs.Prelude.{ℕ, ◌*◌, ◌/◌, ◌≤◌, ◌<◌, Bool, true, not, ◌↔◌, refl, eqb, take}
use Rattle.std.proofs.Common.{arith, ◌∙◌, drop_at, take_at}
use Rattle.std.proofs.Math.Bool.{false}
use mathlib.Core.List.{List, ◌++◌, map}
use Rattle.std.proofs.Math.Option.{Option, none, some}
use Rattle.std.proofs.Math.Path.{◌≡◌, sym, ap, subst}
use Rattle.std.proofs.Math.ListN.{length, get_or, drop, length-map}
use borrow.Author.Tests.{eqb-false, eqb-true, le-ltb, lt-ltb, ltb-false, not-false, not-true}
use Rattle.definition.specs.Block.{block_count, file_of, stream_of}
use Rattle.definition.specs.Convert.{backward, body_of, convert, folds_test, forward, to_edition1, to_edition2}
use Rattle.definition.specs.Layout.{words_due}
use Rattle.definition.specs.Lists.{first_true}
use Rattle.definition.specs.Prove.{Result, done, finish, output_test, refusal}
use Rattle.definition.specs.Reading.{reading}
use Rattle.definition.specs.Sheet.{Sheet, edition1, edition2, sheet_of}
use Rattle.definition.specs.Verdict.{Outcome, ◌then◌, accepted, refuse_at, refuse_if, refused}
use Rattle.definition.specs.Verify.{verify_in}
use Rattle.list_laws.specs.All.{all_places}
use Rattle.list_laws.specs.First.{FirstTrue, first_true_lem}
use Rattle.list_laws.specs.Lists.{get_d_map}
use Rattle.layouts.specs.FileTrip.{file_length}
use Rattle.layouts.specs.Tests.{if_false, if_passes, then_passes}
use Rattle.completeness.proofs.Conversion.{backward_body, backward_forward, backward_length, backward_reads, backward_sheet, backward_verdict, converted, forward_back, forward_body, forward_folds, forward_length, forward_reads, forward_sheet, forward_verdict}
use Rattle.completeness.proofs.ProveAccepted.{finish_done, finish_failed}

-- ---- the output, whatever the words

module _ (tests : Outcome) (words output : List ℕ) where
  abbrev due : ℕ
  due = block_count (length words)

  convert_done : (n : ℕ) → (convert tests words output).answer ≡ done n → (tests ≡ accepted) × (n ≡ block_count (length words)) × (512 * n ≤ length output)
  unfolding convert output_test
  convert_done n e =
      let r = finish_done (tests then output_test due (512 * due) (length output)) due n (file_of words) output e in
      let t = then_passes tests _ r.0 in
      (t.0, sym r.1, omega (arith, ltb-false (length output) (512 * due) (if_passes 11 due _ t.1), r.1))

  done_convert : tests ≡ accepted → 512 * block_count (length words) ≤ length output →
      convert tests words output ≡ record { answer = done (block_count (length words)); output = file_of words ++ drop (512 * block_count (length words)) output }
  unfolding convert output_test finish ◌then◌
  done_convert passes room =
      let o : output_test due (512 * due) (length output) ≡ accepted = if_false 11 due _ (le-ltb (length output) (512 * due) room) in
      (λ i. finish (passes i then o i) due (file_of words) output) ∙ (λ i. record { answer = done due; output = file_of words ++ drop (file_length words i) output })

  convert_refused : (n q : ℕ) → (convert tests words output).answer ≡ refusal n q → (convert tests words output).output ≡ output
  unfolding convert
  convert_refused n q e = finish_failed (tests then output_test due (512 * due) (length output)) due n q (file_of words) output e

  -- which refusal
  convert_refuses : (n q : ℕ) → tests ≡ refused n q → (convert tests words output).answer ≡ refusal n q
  unfolding convert finish ◌then◌
  convert_refuses n q e = ap (λ (t : Outcome). (finish (t then output_test due (512 * due) (length output)) due (file_of words) output).answer) e

  convert_short : (n : ℕ) → tests ≡ accepted → n ≡ block_count (length words) → length output < 512 * n → (convert tests words output).answer ≡ refusal 11 n
  unfolding convert finish ◌then◌ output_test refuse_if
  convert_short n passes e l =
      let b = lt-ltb (length output) (512 * due) (omega (arith, l, e)) in
      (λ i. (finish (passes i then refuse_if 11 due (b i)) due (file_of words) output).answer) ∙ ap (refusal 11) (sym e)

  -- where the file of the words is known
  convert_is : (bytes : List ℕ) → tests ≡ accepted → file_of words ≡ bytes → length bytes ≤ length output →
      convert tests words output ≡ record { answer = done (length bytes / 512); output = bytes ++ drop (length bytes) output }
  convert_is bytes passes e room =
      let size : 512 * due ≡ length bytes = sym (file_length words) ∙ ap length e in
      let count : due ≡ length bytes / 512 = omega (arith, size) in
      done_convert passes (omega (arith, size)) ∙ (λ i. record { answer = done (count i); output = e i ++ drop (size i) output })

  -- the blocks written
  written : (n : ℕ) → (convert tests words output).answer ≡ done n → take (512 * n) (convert tests words output).output ≡ file_of words
  written n e =
      let r = convert_done n e in
      ap (λ (x : Result). take (512 * n) x.output) (done_convert r.0 (omega (arith, r.1, r.2)))
      ∙ take_at (file_of words) _ (512 * n) (file_length words ∙ ap (λ (m : ℕ). 512 * m) (sym r.1))

  -- and what is after them
  after : (n : ℕ) → (convert tests words output).answer ≡ done n → drop (512 * n) (convert tests words output).output ≡ drop (512 * n) output
  after n e =
      let r = convert_done n e in
      let size : length (file_of words) ≡ 512 * n = file_length words ∙ ap (λ (m : ℕ). 512 * m) (sym r.1) in
      ap (λ (x : Result). drop (512 * n) x.output) (done_convert r.0 (omega (arith, r.1, r.2))) ∙ drop_at (file_of words) _ (512 * n) size ∙ ap (λ (m : ℕ). drop (512 * m) output) (sym r.1)

-- every byte is one
abbrev pub Bytes : List ℕ → Type 0
Bytes bytes = (i : ℕ) → i < length bytes → get_or bytes i 0 < 256

-- there and back, and back and there, of the bytes of a file
pub bytes_back : (bytes : List ℕ) → reading edition1 bytes ≡ accepted → Bytes bytes → file_of (backward (stream_of (file_of (forward (stream_of bytes))))) ≡ bytes
bytes_back bytes read small = forward_back bytes read (all_places (λ x. x < 256) bytes 0 small)

pub bytes_there : (bytes : List ℕ) → reading edition2 bytes ≡ accepted → folds_test (sheet_of edition2 (stream_of bytes)) ≡ accepted → Bytes bytes →
    file_of (forward (stream_of (file_of (backward (stream_of bytes))))) ≡ bytes
bytes_there bytes read equal small = backward_forward bytes read equal (all_places (λ x. x < 256) bytes 0 small)

-- ---- to edition 2

module _ (bytes output : List ℕ) (n : ℕ) where
  pub to_2_exactly : ((to_edition2 bytes output).answer ≡ done n)
      ↔ ((reading edition1 bytes ≡ accepted) × (n ≡ block_count (words_due edition2 (sheet_of edition1 (stream_of bytes)))) × (512 * n ≤ length output))
  unfolding to_edition2
  to_2_exactly = (
    λ e. let r = convert_done (reading edition1 bytes) (forward (stream_of bytes)) output n e in (r.0, r.1 ∙ ap block_count (forward_length bytes r.0), r.2),
    λ t. let m : n ≡ block_count (length (forward (stream_of bytes))) = t.1 ∙ ap block_count (sym (forward_length bytes t.0)) in
        ap (λ (x : Result). x.answer) (done_convert (reading edition1 bytes) (forward (stream_of bytes)) output t.0 (omega (arith, t.2, m))) ∙ ap done (sym m),
  )

  module _ (e : (to_edition2 bytes output).answer ≡ done n) where
    to_2_passed : reading edition1 bytes ≡ accepted
    to_2_passed = (to_2_exactly.0 e).0

    to_2_written : take (512 * n) (to_edition2 bytes output).output ≡ file_of (forward (stream_of bytes))
    unfolding to_edition2
    to_2_written = written (reading edition1 bytes) (forward (stream_of bytes)) output n e

    pub to_2_after : drop (512 * n) (to_edition2 bytes output).output ≡ drop (512 * n) output
    unfolding to_edition2
    to_2_after = after (reading edition1 bytes) (forward (stream_of bytes)) output n e

    pub to_2_reads : reading edition2 (take (512 * n) (to_edition2 bytes output).output) ≡ accepted
    to_2_reads = ap (reading edition2) to_2_written ∙ forward_reads bytes to_2_passed

    pub to_2_verdict : verify_in edition2 (take (512 * n) (to_edition2 bytes output).output) ≡ converted (verify_in edition1 bytes)
    to_2_verdict = ap (verify_in edition2) to_2_written ∙ forward_verdict bytes to_2_passed

    pub to_2_sheet : sheet_of edition2 (stream_of (take (512 * n) (to_edition2 bytes output).output)) ≡ sheet_of edition1 (stream_of bytes)
    to_2_sheet = ap (λ (f : List ℕ). sheet_of edition2 (stream_of f)) to_2_written ∙ forward_sheet bytes to_2_passed

    pub to_2_body : body_of edition2 (stream_of (take (512 * n) (to_edition2 bytes output).output)) ≡ body_of edition1 (stream_of bytes)
    to_2_body = ap (λ (f : List ℕ). body_of edition2 (stream_of f)) to_2_written ∙ forward_body bytes to_2_passed

    pub there_and_back : Bytes bytes → (back : List ℕ) → length bytes ≤ length back →
        to_edition1 (take (512 * n) (to_edition2 bytes output).output) back ≡ record { answer = done (length bytes / 512); output = bytes ++ drop (length bytes) back }
    unfolding to_edition1 ◌then◌
    there_and_back small back room =
        let file = file_of (forward (stream_of bytes)) in
        ap (λ (f : List ℕ). to_edition1 f back) to_2_written
        ∙ convert_is (reading edition2 file then folds_test (sheet_of edition2 (stream_of file))) (backward (stream_of file)) back bytes
        (λ i. forward_reads bytes to_2_passed i then forward_folds bytes to_2_passed i) (bytes_back bytes to_2_passed small) room

pub to_2_refused : (bytes output : List ℕ) (n q : ℕ) → (to_edition2 bytes output).answer ≡ refusal n q → (to_edition2 bytes output).output ≡ output
unfolding to_edition2
to_2_refused bytes output n q e = convert_refused (reading edition1 bytes) (forward (stream_of bytes)) output n q e

pub to_2_refuses : (bytes output : List ℕ) (n q : ℕ) → reading edition1 bytes ≡ refused n q → (to_edition2 bytes output).answer ≡ refusal n q
unfolding to_edition2
to_2_refuses bytes output n q e = convert_refuses (reading edition1 bytes) (forward (stream_of bytes)) output n q e

pub to_2_short : (bytes output : List ℕ) (n : ℕ) → reading edition1 bytes ≡ accepted → n ≡ block_count (words_due edition2 (sheet_of edition1 (stream_of bytes))) → length output < 512 * n →
    (to_edition2 bytes output).answer ≡ refusal 11 n
unfolding to_edition2
to_2_short bytes output n e m l = convert_short (reading edition1 bytes) (forward (stream_of bytes)) output n e (m ∙ ap block_count (sym (forward_length bytes e))) l

-- ---- to edition 1

module _ (bytes output : List ℕ) (n : ℕ) where
  abbrev back_tests : Outcome
  back_tests = reading edition2 bytes then folds_test (sheet_of edition2 (stream_of bytes))

  pub to_1_exactly : ((to_edition1 bytes output).answer ≡ done n)
      ↔ ((reading edition2 bytes ≡ accepted) × (folds_test (sheet_of edition2 (stream_of bytes)) ≡ accepted)
      × (n ≡ block_count (words_due edition1 (sheet_of edition2 (stream_of bytes)))) × (512 * n ≤ length output))
  unfolding to_edition1 ◌then◌
  to_1_exactly = (
    λ e. let r = convert_done back_tests (backward (stream_of bytes)) output n e in
        let t = then_passes (reading edition2 bytes) _ r.0 in
        (t.0, t.1, r.1 ∙ ap block_count (backward_length bytes t.0 t.1), r.2),
    λ t. let m : n ≡ block_count (length (backward (stream_of bytes))) = t.2 ∙ ap block_count (sym (backward_length bytes t.0 t.1)) in
        ap (λ (x : Result). x.answer) (done_convert back_tests (backward (stream_of bytes)) output (λ i. t.0 i then t.1 i) (omega (arith, t.3, m))) ∙ ap done (sym m),
  )

  module _ (e : (to_edition1 bytes output).answer ≡ done n) where
    to_1_passed : (reading edition2 bytes ≡ accepted) × (folds_test (sheet_of edition2 (stream_of bytes)) ≡ accepted)
    to_1_passed = let r = to_1_exactly.0 e in (r.0, r.1)

    to_1_written : take (512 * n) (to_edition1 bytes output).output ≡ file_of (backward (stream_of bytes))
    unfolding to_edition1
    to_1_written = written back_tests (backward (stream_of bytes)) output n e

    pub to_1_after : drop (512 * n) (to_edition1 bytes output).output ≡ drop (512 * n) output
    unfolding to_edition1
    to_1_after = after back_tests (backward (stream_of bytes)) output n e

    pub to_1_reads : reading edition1 (take (512 * n) (to_edition1 bytes output).output) ≡ accepted
    to_1_reads = ap (reading edition1) to_1_written ∙ backward_reads bytes to_1_passed.0 to_1_passed.1

    pub to_1_verdict : verify_in edition2 bytes ≡ converted (verify_in edition1 (take (512 * n) (to_edition1 bytes output).output))
    to_1_verdict = backward_verdict bytes to_1_passed.0 to_1_passed.1 ∙ ap (λ (f : List ℕ). converted (verify_in edition1 f)) (sym to_1_written)

    pub to_1_sheet : sheet_of edition1 (stream_of (take (512 * n) (to_edition1 bytes output).output)) ≡ sheet_of edition2 (stream_of bytes)
    to_1_sheet = ap (λ (f : List ℕ). sheet_of edition1 (stream_of f)) to_1_written ∙ backward_sheet bytes to_1_passed.0 to_1_passed.1

    pub to_1_body : body_of edition1 (stream_of (take (512 * n) (to_edition1 bytes output).output)) ≡ body_of edition2 (stream_of bytes)
    to_1_body = ap (λ (f : List ℕ). body_of edition1 (stream_of f)) to_1_written ∙ backward_body bytes to_1_passed.0 to_1_passed.1

    pub back_and_there : Bytes bytes → (again : List ℕ) → length bytes ≤ length again →
        to_edition2 (take (512 * n) (to_edition1 bytes output).output) again ≡ record { answer = done (length bytes / 512); output = bytes ++ drop (length bytes) again }
    unfolding to_edition2
    back_and_there small again room =
        let file = file_of (backward (stream_of bytes)) in
        ap (λ (f : List ℕ). to_edition2 f again) to_1_written
        ∙ convert_is (reading edition1 file) (forward (stream_of file)) again bytes (backward_reads bytes to_1_passed.0 to_1_passed.1)
        (bytes_there bytes to_1_passed.0 to_1_passed.1 small) room

pub to_1_refused : (bytes output : List ℕ) (n q : ℕ) → (to_edition1 bytes output).answer ≡ refusal n q → (to_edition1 bytes output).output ≡ output
unfolding to_edition1
to_1_refused bytes output n q e = convert_refused (back_tests bytes output 0) (backward (stream_of bytes)) output n q e

pub to_1_refuses : (bytes output : List ℕ) (n q : ℕ) → reading edition2 bytes ≡ refused n q → (to_edition1 bytes output).answer ≡ refusal n q
unfolding to_edition1 ◌then◌
to_1_refuses bytes output n q e =
    convert_refuses (back_tests bytes output 0) (backward (stream_of bytes)) output n q (ap (λ (t : Outcome). t then folds_test (sheet_of edition2 (stream_of bytes))) e)

pub to_1_folds : (bytes output : List ℕ) (n q : ℕ) → reading edition2 bytes ≡ accepted → folds_test (sheet_of edition2 (stream_of bytes)) ≡ refused n q → (to_edition1 bytes output).answer ≡ refusal n q
unfolding to_edition1 ◌then◌
to_1_folds bytes output n q e f = convert_refuses (back_tests bytes output 0) (backward (stream_of bytes)) output n q (λ i. e i then f i)

pub to_1_short : (bytes output : List ℕ) (n : ℕ) → reading edition2 bytes ≡ accepted → folds_test (sheet_of edition2 (stream_of bytes)) ≡ accepted →
    n ≡ block_count (words_due edition1 (sheet_of edition2 (stream_of bytes))) → length output < 512 * n → (to_edition1 bytes output).answer ≡ refusal 11 n
unfolding to_edition1 ◌then◌
to_1_short bytes output n e f m l =
    convert_short (back_tests bytes output 0) (backward (stream_of bytes)) output n (λ i. e i then f i) (m ∙ ap block_count (sym (backward_length bytes e f))) l

-- ---- 13: the first folding number that is not k_0

module _ (h : Sheet) where
  abbrev k₀ : ℕ
  k₀ = get_or h.folds 0 0

  differs : ℕ → Bool
  differs k = not (eqb k (get_or h.folds 0 0))

  tests : List Bool
  tests = map differs h.folds

  test_at : (i : ℕ) → i < length h.folds → get_or tests i false ≡ differs (get_or h.folds i 0)
  unfolding tests
  test_at i l = get_d_map differs h.folds 0 false i l

  tests_length : length tests ≡ length h.folds
  unfolding tests
  tests_length = length-map h.folds differs

  agrees : (i : ℕ) → i < length h.folds → get_or tests i false ≡ false → get_or h.folds i 0 ≡ k₀
  unfolding differs
  agrees i l e = eqb-true _ _ (not-false _ (sym (test_at i l) ∙ e))

  pub folds_exactly : (folds_test h ≡ accepted) ↔ ((i : ℕ) → i < length h.folds → get_or h.folds i 0 ≡ get_or h.folds 0 0)
  unfolding folds_test tests differs refuse_at
  folds_exactly = (λ e. forth (first_true 0 tests) (first_true_lem 0 tests) e, λ s. back (first_true 0 tests) (first_true_lem 0 tests) s)
    where
      forth : (o : Option ℕ) → FirstTrue 0 tests o → refuse_at 13 o ≡ accepted → (i : ℕ) → i < length h.folds → get_or h.folds i 0 ≡ k₀
      forth none k e i l = agrees i l (k i (omega (arith, tests_length)))
      forth (some q) k e i l = let z : ◌≡◌ {A = ℕ} 0 1 = cc in absurd (omega arith)

      back : (o : Option ℕ) → FirstTrue 0 tests o → ((i : ℕ) → i < length h.folds → get_or h.folds i 0 ≡ k₀) → refuse_at 13 o ≡ accepted
      back none k s = refl
      back (some q) k s = let l : k.0 < length h.folds = omega (arith, k.2, tests_length) in
          absurd (eqb-false _ _ (not-true _ (sym (test_at k.0 l) ∙ k.3)) (s k.0 l))

  pub folds_refused : (n i : ℕ) → folds_test h ≡ refused n i →
      (n ≡ 13) × (i < length h.folds) × (get_or h.folds i 0 ≡ get_or h.folds 0 0 → ⊥) × ((j : ℕ) → j < i → get_or h.folds j 0 ≡ get_or h.folds 0 0)
  unfolding folds_test tests differs refuse_at
  folds_refused n i e = go (first_true 0 tests) (first_true_lem 0 tests) e
    where
      go : (o : Option ℕ) → FirstTrue 0 tests o → refuse_at 13 o ≡ refused n i →
          (n ≡ 13) × (i < length h.folds) × (get_or h.folds i 0 ≡ k₀ → ⊥) × ((j : ℕ) → j < i → get_or h.folds j 0 ≡ k₀)
      go none k f = let z : ◌≡◌ {A = ℕ} 0 1 = cc in absurd (omega arith)
      go (some q) k f =
          let number : 13 ≡ n = cc in
          let place : q ≡ i = cc in
          let at : k.0 ≡ i = omega (arith, k.1, place) in
          let l : i < length h.folds = omega (arith, k.2, at, tests_length) in (
            sym number,
            l,
            eqb-false _ _ (not-true _ (sym (test_at i l) ∙ subst (λ (x : ℕ). get_or tests x false ≡ true) at k.3)),
            λ j u. agrees j (omega (arith, l)) (k.4 j (omega (arith, at))),
          )
