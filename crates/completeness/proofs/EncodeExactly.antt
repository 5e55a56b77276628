-- Encode done exactly: its tests pass exactly when the sheet keeps its rules, there are the words of d0 elements and the output has those of n0; and then it writes table 0.
use Rattle.std.specs.Prelude.{ℕ, ◌≤◌, ◌<◌, Bool, ◌↔◌, ◌≡◌, get_or, replicate}
use Rattle.std.proofs.Common.{arith, ◌∙◌}
use Rattle.std.proofs.Math.Bool.{false, not}
use mathlib.Core.List.{List, [], ◌++◌, zip_with, append-nil}
use Rattle.std.proofs.Math.Path.{sym, ap}
use Rattle.std.proofs.Math.Dec.{leb}
use Rattle.std.proofs.Math.ListN.{length, drop, get_or-replicate, length-replicate, get_or-append}
use borrow.Author.Tests.{eq-eqb, le-ltb, leb-false, lt-leb, ltb-false}
use Rattle.definition.specs.Domain.{point}
use Rattle.definition.specs.Field.{Element, elements_in, number_in, words_of}
use Rattle.definition.specs.Layout.{Kind, limit, message}
use Rattle.definition.specs.Polynomial.{evaluate}
use Rattle.definition.specs.Prove.{Result, coefficients_test, done, encode, encode_tests, finish, input_range_test, output_test, refusal, sheet_length_test}
use Rattle.definition.specs.Prover.{table_of, table_words}
use Rattle.definition.specs.Reading.{out_of_range, sheet_test}
use Rattle.definition.specs.Sheet.{Level, Sheet, edition1, sheet_of}
use Rattle.definition.specs.Verdict.{Outcome, ◌then◌, accepted}
use Rattle.list_laws.specs.All.{all_places, at_place}
use Rattle.algebra.specs.FieldIn.{zero_in}
use Rattle.layouts.specs.Levels.{element_at, level_of, sheet_field, sheet_root, words_for}
use Rattle.layouts.proofs.LevelsByNumber.{level_first, undivided}
use Rattle.layouts.proofs.RulesByWord.{sheet_exactly}
use Rattle.layouts.specs.Spellings.{read_at_lem, read_words, words_length}
use Rattle.layouts.specs.Tests.{all_false, at_none, equal_passes, if_false, if_passes, none_true, then_passes}
use Rattle.completeness.proofs.Allowed.{sheet_long}
use Rattle.completeness.specs.DecidingAccepts.{table_at, table_length}
use Rattle.completeness.specs.Faults.{Encodable}
use Rattle.completeness.proofs.ProveAccepted.{finish_done, finish_failed}
use Rattle.completeness.specs.TestsByNumber.{zip_at, zip_length}

module _ (w f output : List ℕ) where
  abbrev h : Sheet
  h = sheet_of edition1 w

  abbrev tests : Outcome
  tests = sheet_length_test edition1 w then sheet_test edition1 w then encode_tests (sheet_of edition1 w) f output

  -- the number of words of d0 coefficients, and of table 0
  abbrev given : ℕ
  given = words_for (sheet_of edition1 w) (get_or w 2 0)

  abbrev due : ℕ
  due = words_for (sheet_of edition1 w) (get_or w 1 0)

  -- the kinds that the coefficients are tested against
  abbrev pub kinds : List Kind
  kinds = replicate (words_for (sheet_of edition1 w) (sheet_of edition1 w).degree) message ++ []

  kinds_length : length kinds ≡ given
  unfolding sheet_of
  kinds_length = ap length (append-nil (replicate given message)) ∙ length-replicate given message

  pub coefficient_at : (j : ℕ) → length f ≡ given → j < length f → get_or (zip_with (out_of_range (sheet_of edition1 w)) kinds f) j false ≡ leb (sheet_of edition1 w).prime (get_or f j 0)
  unfolding out_of_range limit sheet_of
  coefficient_at j n l =
      zip_at (out_of_range (sheet_of edition1 w)) message 0 kinds f j (omega (arith, kinds_length)) (omega (arith, kinds_length))
      ∙ ap (λ (k : Kind). leb (limit (sheet_of edition1 w).prime k) (get_or f j 0)) (get_or-append (replicate given message) [] message j
      (omega (arith, length-replicate given message)) ∙ get_or-replicate given j message message (omega arith))

  pub tested_length : length f ≡ given → length (zip_with (out_of_range (sheet_of edition1 w)) kinds f) ≡ length f
  tested_length n = zip_length (out_of_range (sheet_of edition1 w)) message 0 kinds f (omega (arith, kinds_length)) ∙ kinds_length ∙ sym n

  tests_pass : tests ≡ accepted → Encodable w f × (due ≤ length output)
  unfolding encode_tests coefficients_test input_range_test output_test sheet_of
  tests_pass e =
      let a = then_passes (sheet_length_test edition1 w) _ e in
      let b = then_passes (sheet_test edition1 w) _ a.1 in
      let c = then_passes (coefficients_test (sheet_of edition1 w) f) _ b.1 in
      let d = then_passes (input_range_test (sheet_of edition1 w) [] f) _ c.1 in
      let n : length f ≡ given = equal_passes 10 1 (length f) given c.0 in
      let clear = all_false 5 0 (zip_with (out_of_range (sheet_of edition1 w)) kinds f) d.0 in (
        record {
          words = sheet_long edition1 w a.0;
          rules = (sheet_exactly edition1 w).0 b.0;
          count = n;
          range = λ j l. leb-false _ _ (sym (coefficient_at j n l) ∙ at_place (λ (t : Bool). t ≡ false) (zip_with (out_of_range (sheet_of edition1 w)) kinds f) false clear j (omega (arith, tested_length n)));
        },
        ltb-false (length output) due (if_passes 11 due _ d.1),
      )

  pass_tests : Encodable w f → due ≤ length output → tests ≡ accepted
  unfolding encode_tests sheet_length_test coefficients_test input_range_test output_test sheet_of ◌then◌
  pass_tests ok room =
      let bs = zip_with (out_of_range (sheet_of edition1 w)) kinds f in
      let a : sheet_length_test edition1 w ≡ accepted = if_false 10 0 _ (ap not (eq-eqb (length w) 12 ok.words)) in
      let b : sheet_test edition1 w ≡ accepted = (sheet_exactly edition1 w).1 ok.rules in
      let c : coefficients_test (sheet_of edition1 w) f ≡ accepted = if_false 10 1 _ (ap not (eq-eqb (length f) given ok.count)) in
      let d : input_range_test (sheet_of edition1 w) [] f ≡ accepted = at_none 5 _ (none_true 0 bs (all_places (λ (t : Bool). t ≡ false) bs false
      (λ j l. let u : j < length f = omega (arith, tested_length ok.count) in coefficient_at j ok.count u ∙ lt-leb _ _ (ok.range j u)))) in
      let g : output_test due due (length output) ≡ accepted = if_false 11 _ _ (le-ltb (length output) due room) in
      (λ i. a i then b i then c i then d i then g i)

  -- table 0 and its words
  abbrev entries : List (Element (sheet_of edition1 w).spelling)
  entries = table_of (sheet_field (sheet_of edition1 w)) (sheet_root (sheet_of edition1 w)) (level_of (sheet_of edition1 w) 0) (elements_in (sheet_of edition1 w).spelling f)

  abbrev written : List ℕ
  written = words_of (sheet_of edition1 w).spelling entries

  first_table : table_words (sheet_of edition1 w) f ≡ written
  unfolding table_words
  first_table =
      ap (λ (b : Level). words_of h.spelling (table_of (sheet_field h) (sheet_root h) b (elements_in h.spelling f))) (level_first (sheet_of edition1 w))

  entries_length : length entries ≡ get_or w 1 0
  unfolding sheet_of
  entries_length = table_length (sheet_field (sheet_of edition1 w)) (sheet_root (sheet_of edition1 w)) (level_of (sheet_of edition1 w) 0) (elements_in (sheet_of edition1 w).spelling f) ∙ undivided (get_or w 1 0)

  pub written_length : length written ≡ due
  written_length = words_length h.spelling entries ∙ ap (words_for h) entries_length

  -- done only if the tests pass, and then with the words of n0 elements
  pub done_encodable : (n : ℕ) → (encode w f output).answer ≡ done n → Encodable w f × (due ≤ length output) × (n ≡ due)
  unfolding encode sheet_of
  done_encodable n e =
      let r = finish_done tests due n (table_words (sheet_of edition1 w) f) output e in
      let t = tests_pass r.0 in
      (t.0, t.1, sym r.1)

  encodable_done : Encodable w f → due ≤ length output → encode w f output ≡ record { answer = done due; output = written ++ drop due output }
  unfolding encode finish sheet_of
  encodable_done ok room =
      ap (λ (o : Outcome). finish o due (table_words (sheet_of edition1 w) f) output) (pass_tests ok room)
      ∙ (λ i. record { answer = done due; output = first_table i ++ drop (length (first_table i)) output })
      ∙ (λ i. record { answer = done due; output = written ++ drop (written_length i) output })

  pub done_exactly : ((encode w f output).answer ≡ done due) ↔ (Encodable w f × (due ≤ length output))
  done_exactly = (
    λ e. let r = done_encodable due e in (r.0, r.1),
    λ t. ap (λ (x : Result). x.answer) (encodable_done t.0 t.1),
  )

  pub output_done : Encodable w f → due ≤ length output → (encode w f output).output ≡ written ++ drop due output
  output_done ok room = ap (λ (x : Result). x.output) (encodable_done ok room)

  -- element j of the output is the value at point j of domain 0
  pub entry : Encodable w f → due ≤ length output → (j : ℕ) → j < get_or w 1 0 →
      element_at (sheet_of edition1 w).spelling (encode w f output).output (words_for (sheet_of edition1 w) j)
      ≡ evaluate (sheet_field (sheet_of edition1 w)) (elements_in (sheet_of edition1 w).spelling f) (point (sheet_field (sheet_of edition1 w)) (sheet_root (sheet_of edition1 w)) (level_of (sheet_of edition1 w) 0) j)
  entry ok room j l =
      let σ = h.spelling in
      ap (λ (t : List ℕ). element_at σ t (words_for h j)) (output_done ok room)
      ∙ sym (read_at_lem σ (written ++ drop due output) j) ∙ ap (λ (xs : List (Element (sheet_of edition1 w).spelling)). get_or xs j (number_in σ 0)) (read_words σ entries (drop due output))
      ∙ get_or-append entries (elements_in σ (drop due output)) (number_in σ 0) j (omega (arith, entries_length))
      ∙ ap (get_or entries j) (sym (zero_in σ h.prime))
      ∙ table_at (sheet_field h) (sheet_root h) (level_of h 0) (elements_in σ f) j (omega (arith, entries_length, table_length (sheet_field h) (sheet_root h) (level_of h 0) (elements_in σ f)))

  pub refused_same : (n q : ℕ) → (encode w f output).answer ≡ refusal n q → (encode w f output).output ≡ output
  unfolding encode
  refused_same n q e = finish_failed tests _ n q _ output e
