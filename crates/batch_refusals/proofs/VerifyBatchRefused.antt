-- The tests of verify of a batch in their order, each against what it is to be a fault of it.
use Prim.Native.Nat.{ℕ, zero, suc, ◌+◌, ◌-◌, ◌%◌, ◌≤◌, ◌<◌}
use Rattle.std.proofs.Common.{zero-add, arith, true≢false, ◌∙◌, subst, length-drop, drop_at, drop-drop, get_or-drop}
use Rattle.std.specs.Prelude.{Bool, true, false, not, ◌||◌, ◌↔◌, ◌≡◌, refl, eqb, length, drop}
use mathlib.Core.List.{List, map, zip_with}
use Rattle.std.proofs.Math.Option.{none}
use Rattle.std.proofs.Math.Path.{sym, ap}
use Rattle.std.proofs.Math.ListN.{get_or, get_or-eq_default}
use Rattle.std.proofs.lemmas.List.{length-map}
use borrow.Author.Tests.{eq-eqb, eqb-false, eqb-true, ne_eqb, not-false}
use Rattle.batch_definition.specs.Batch.{batch_deciding, batch_layout, batch_reading, batch_rules, batch_start, batch_test, batch_tests, batch_words, read_batch, verify_batch}
use Rattle.definition.specs.Block.{block_count, file_blocks, stream_of, wrong_checks}
use Rattle.definition.specs.Deciding.{Decision, counted, equal_test, out_in_domain, out_test, out_tests, repeated_outs}
use Rattle.definition.specs.Field.{begun_by, words_of}
use Rattle.definition.specs.Layout.{Kind, layout}
use Rattle.definition.specs.Lists.{first_of, first_true}
use Rattle.definition.specs.Reading.{blocks_test, body_tests, check_test, fill_test, length_test, out_of_range, range_test, sheet_test}
use Rattle.definition.specs.Sheet.{Sheet, edition1, sheet_rules, test_order}
use Rattle.definition.specs.Verdict.{Outcome, Verdict, ◌then◌, accepted, refuse_at, refuse_if, refused, then_verdict}
use Rattle.list_laws.specs.Booleans.{is_false, or_false}
use Rattle.list_laws.specs.First.{first_of_lem}
use Rattle.list_laws.specs.Lists.{get_d_map}
use Rattle.algebra.specs.Laws.{FieldLaws}
use Rattle.layouts.specs.FileWords.{stream_length}
use Rattle.layouts.proofs.Lawful.{lawful}
use Rattle.layouts.specs.LawfulSheets.{Lawful}
use Rattle.layouts.specs.Levels.{element_at, rounds_of, sheet_field, words_for}
use Rattle.layouts.proofs.RulesByWord.{rules_counted, rules_length, sheet_exactly}
use Rattle.layouts.specs.Spellings.{at_drop}
use Rattle.completeness.specs.DecidedByNumber.{clashes, decided, final_tests}
use Rattle.completeness.specs.Faults.{CheckFault, LengthFault, NoFault, RuleFault, blocks_in, due_of, outs, part_start, turn_of}
use Rattle.completeness.specs.FileByNumber.{check_at, checks_length}
use Rattle.completeness.specs.FirstFaults.{exact_at, exact_if, exact_places}
use Rattle.completeness.specs.OutsByNumber
use Rattle.completeness.specs.PartsByNumber.{due_is}
use Rattle.completeness.specs.Ready.{sheet_laws}
use Rattle.completeness.specs.TestsByNumber.{differ, differs}
use Rattle.completeness.proofs.VerifyExactly.{is_true, length_complete, rule_complete, rule_sound, rules_rise, then_accepted, then_assoc}
use Rattle.refusals.proofs.InOrder.{ExactRow, FaultOf, named, named_at, named_if, next, number_of, own, place_turn, row_accepted, row_refused}
use Rattle.refusals.specs.InputFaults.{FirstFailure, NoFailure, Test, test, test_at}
use Rattle.batches.specs.Batched.{batch_number, batch_sheet, combined_table, fold_number, higher_by, plain_words}
use Rattle.batches.proofs.PlainStream
use Rattle.batches.proofs.PlainStream.{after_sheet, at_is, both, field_laws, outs_higher, plain_due, table_long, tests_moved}
use Rattle.batches.proofs.PlainVerdict
use Rattle.batch_refusals.specs.BatchFaults.{BatchBlocksFault, BatchDomainFault, BatchEqualFault, BatchFillFault, BoundFault, batch_due, verify_batch_row}
use Rattle.batch_refusals.specs.BatchParts.{batch_words_lem, fold_number_lem, fold_start, outs_after, range_finds}
use Rattle.batch_refusals.proofs.BoundsByNumber.{exact_bounds, number_kept}
use Rattle.batch_refusals.specs.DecidedFaults.{Finds, clash_finds, final_finds}

-- what follows a test, where it needs to be the verdict's only if the test passes
joined : (o : Outcome) (d : Verdict) (t : Outcome) → (o ≡ accepted → t ≡ d.outcome) → (o then t) ≡ (then_verdict o d).outcome
unfolding then_verdict ◌then◌
joined accepted d t e = e refl
joined (refused n q) d t e = refl

module _ (file : List ℕ) where
  abbrev w : List ℕ
  w = stream_of file

  abbrev h : Sheet
  h = batch_sheet file

  abbrev N : ℕ
  N = batch_number file

  abbrev K : ℕ
  K = higher_by (batch_sheet file) (batch_number file)

  -- the plain stream
  abbrev v : List ℕ
  v = plain_words (stream_of file)

  abbrev M : ℕ
  M = rounds_of (batch_sheet file)

  abbrev kinds : List Kind
  kinds = batch_layout (batch_sheet file) (batch_number file)

  abbrev due : ℕ
  due = batch_words (batch_sheet file) (batch_number file)

  abbrev place : ℕ
  place = block_count (batch_words (batch_sheet file) (batch_number file))

  abbrev wrong_length : Bool
  wrong_length = eqb (length file) 0 || not (eqb (length file % 512) 0)

  abbrev checks : List Bool
  checks = wrong_checks 0 (file_blocks file)

  abbrev rules : List Bool
  rules = map not (sheet_rules edition1 (stream_of file))

  abbrev ranges : List Bool
  ranges = zip_with (out_of_range (batch_sheet file)) (batch_layout (batch_sheet file) (batch_number file)) (drop (batch_start (batch_number file)) (stream_of file))

  abbrev fills : List Bool
  fills = map (λ (x : ℕ). not (eqb x 0)) (drop (batch_words (batch_sheet file) (batch_number file)) (stream_of file))

  -- the tests of out coins in the plain stream
  abbrev in_domains : List Bool
  in_domains = zip_with (out_in_domain (batch_sheet file).spelling (batch_sheet file)) (layout (batch_sheet file)) (begun_by (batch_sheet file).spelling (drop 12 (plain_words (stream_of file))))

  abbrev equals : List Bool
  equals = repeated_outs (sheet_field (batch_sheet file)) none (layout (batch_sheet file)) (begun_by (batch_sheet file).spelling (drop 12 (plain_words (stream_of file))))

  abbrev P : ℕ → (ℕ → Type 0)
  P = FaultOf edition1 (verify_batch_row file)

  abbrev T : ℕ → ℕ → ℕ
  T = place_turn edition1 (verify_batch_row file)

  -- the tests, called by their turns
  abbrev row : Outcome
  row = refuse_if 0 0 wrong_length then refuse_at 1 (first_true 0 checks) then refuse_at 2 (first_of (test_order edition1) rules)
      then refuse_at 3 (first_true 0 (map not (batch_rules (batch_sheet file) (batch_number file) (drop 13 (stream_of file))))) then refuse_if 4 place (not (eqb (blocks_in file) place))
      then refuse_at 5 (first_true (batch_start (batch_number file)) ranges) then refuse_at 6 (first_true due fills) then refuse_at 7 (first_true (12 + K) in_domains) then refuse_at 8 (first_true (12 + K) equals)
      then refuse_at 9 (first_true 1 (clashes edition1 (batch_sheet file) (plain_words (stream_of file)) 0 M)) then refuse_at 10 (first_true 0 (final_tests edition1 (batch_sheet file) (plain_words (stream_of file)))) then accepted

  -- 8 and 9, and 7 and 14 before them, with their numbers
  abbrev run : Outcome
  run = refuse_at 8 (first_true 1 (clashes edition1 (batch_sheet file) (plain_words (stream_of file)) 0 M)) then refuse_at 9 (first_true 0 (final_tests edition1 (batch_sheet file) (plain_words (stream_of file))))

  abbrev late : Outcome
  late = refuse_at 7 (first_true (12 + K) in_domains) then refuse_at 14 (first_true (12 + K) equals) then run

  -- reading as one row of tests
  in_row : (x : Outcome) → (batch_reading file then x) ≡ (length_test file then check_test file then sheet_test edition1 w then batch_test h N (drop 13 w) then blocks_test due (blocks_in file)
      then range_test h (batch_start N) kinds w then fill_test due w then x)
  unfolding batch_reading batch_tests body_tests batch_words
  in_row x =
      then_assoc (length_test file) _ x ∙ ap (λ (o : Outcome). length_test file then o) (then_assoc (check_test file) _ x
      ∙ ap (λ (o : Outcome). check_test file then o) (then_assoc (sheet_test edition1 w) _ x
      ∙ ap (λ (o : Outcome). sheet_test edition1 w then o) (then_assoc (batch_test h N (drop 13 w)) _ x
      ∙ ap (λ (o : Outcome). batch_test h N (drop 13 w) then o) (then_assoc (blocks_test due (blocks_in file)) _ x
      ∙ ap (λ (o : Outcome). blocks_test due (blocks_in file) then o) (then_assoc (range_test h (batch_start N) kinds w) _ x)))))

  -- past reading, the tests are the plain stream's, 7 and 14 at numbers that are higher
  decides : batch_reading file ≡ accepted → late ≡ (batch_deciding w).outcome
  unfolding batch_deciding counted out_tests out_test equal_test
  decides read =
      let passed = (PlainVerdict.tests file read).0 in
      let some = PlainVerdict.some file read in
      let full = PlainVerdict.full file read in
      let b = both w passed some full (field_laws w passed some full) in
      sym (then_assoc (refuse_at 7 (first_true (12 + K) in_domains)) (refuse_at 14 (first_true (12 + K) equals)) run)
      ∙ ap (λ (o : Outcome). o then run) (tests_moved 12 K in_domains equals ∙ sym (outs_higher w passed some full))
      ∙ joined (out_tests h (batch_start N) kinds w) _ run (λ o. sym (decided edition1 h v (lawful edition1 w (PlainStream.enough w passed some full) passed).paired)
      ∙ ap (λ (d : Decision). d.outcome) b.0 ∙ sym (ap (λ (d : Decision). d.outcome) b.1))

  same : named (number_of edition1 (verify_batch_row file)) row ≡ (verify_batch file).outcome
  unfolding length_test check_test sheet_test batch_test blocks_test range_test fill_test verify_batch
  same =
      let n = number_of edition1 (verify_batch_row file) in
      next n _ _ _ _ (named_if n 0 0 _) (next n _ _ _ _ (named_at n 1 _) (next n _ _ _ _ (named_at n 2 _) (next n _ _ _ _ (named_at n 3 _) (next n _ _ _ _ (named_if n 4 place _)
      (next n _ _ _ _ (named_at n 5 _) (next n _ _ _ _ (named_at n 6 _) (next n _ _ _ _ (named_at n 7 _) (next n _ _ _ _ (named_at n 8 _) (next n _ _ _ _ (named_at n 9 _)
      (ap (named n) (sym (then_accepted (refuse_at 10 (first_true 0 (final_tests edition1 h v))))) ∙ named_at n 10 _))))))))))
      ∙ sym (in_row late) ∙ joined (batch_reading file) (batch_deciding w) late decides

  -- 1
  length_sound : wrong_length ≡ true → LengthFault file 0
  length_sound e = (refl, λ g. true≢false (sym e ∙ (λ i. ne_eqb (length file) 0 (omega (arith, g.0)) i || not (eq-eqb (length file % 512) 0 g.1 i))))

  -- 2
  check_finds : Finds (CheckFault file) 0 checks
  check_finds = (
    λ b l e. let u : b < blocks_in file = omega (arith, checks_length file) in subst (CheckFault file) (sym (zero-add b)) (u, differ _ _ (sym (check_at file b u) ∙ e)),
    λ q p. (q, sym (zero-add q), omega (arith, p.0, checks_length file), check_at file q p.0 ∙ differs _ _ p.1),
  )

  -- what has passed, for the tests after it
  module _ (whole : (q : ℕ) → LengthFault file q → ⊥) where
    some_words : 127 ≤ length (stream_of file)
    some_words =
        let r = or_false (eqb (length file) 0) (not (eqb (length file % 512) 0)) (is_false _ (λ e. whole 0 (length_sound e))) in
        omega (arith, stream_length file, eqb-false (length file) 0 r.0, eqb-true (length file % 512) 0 (not-false _ r.1))

    -- 15: the bounds of a right number are there
    bounds_there : N ≤ 8 → N ≤ length (drop 13 w)
    bounds_there l = omega (arith, length-drop 13 w, some_words)

    module _ (ruled : (q : ℕ) → RuleFault edition1 w q → ⊥) (bounded : (q : ℕ) → BoundFault h N (drop 13 w) q → ⊥) where
      passed : sheet_test edition1 (stream_of file) ≡ accepted
      passed = (sheet_exactly edition1 w).1 (λ i l. is_true _ (λ k. ruled i (l, k)))

      some : 1 ≤ get_or (stream_of file) 12 0
      some = (number_kept h N (drop 13 w) bounded).0

      law : Lawful h
      law = lawful edition1 w (omega (arith, some_words)) passed

      due_words : due ≡ batch_due h N
      due_words = batch_words_lem h law.paired N some

      -- 4
      blocks_sound : not (eqb (blocks_in file) place) ≡ true → BatchBlocksFault file place
      blocks_sound e = (ap block_count due_words, differ _ _ e)

      blocks_complete : (q : ℕ) → BatchBlocksFault file q → (q ≡ place) × (not (eqb (blocks_in file) place) ≡ true)
      blocks_complete q p =
          let e : q ≡ place = p.0 ∙ ap block_count (sym due_words) in
          (e, differs _ _ (λ k. p.1 (k ∙ sym e)))

      module _ (counted : (q : ℕ) → BatchBlocksFault file q → ⊥) where
        full : batch_words (batch_sheet file) (batch_number file) ≤ length (stream_of file)
        unfolding block_count
        full =
            let e : blocks_in file ≡ block_count (batch_due h N) = eqb-true _ _ (is_true _ (λ k. counted (block_count (batch_due h N)) (refl, λ g. k (eq-eqb _ _ g)))) in
            omega (arith, e, due_words, stream_length file)

        -- 6
        fill_finds : Finds (BatchFillFault file) due fills
        fill_finds = (
          λ j l e. (omega (arith, due_words), omega (arith, many, stream_length file), differ _ 0 (sym (at j l) ∙ e)),
          λ q p. let j = q - due in
              let s : q ≡ due + j = omega (arith, p.0, due_words) in
              let l : j < length fills = omega (arith, s, p.1, many, stream_length file) in
              (j, s, l, at j l ∙ differs _ 0 (λ k. p.2 (ap (λ (n : ℕ). get_or w n 0) s ∙ k))),
        )
          where
            many : length fills ≡ length w - due
            many = length-map (drop due w) _ ∙ length-drop due w

            at : (j : ℕ) → j < length fills → get_or fills j false ≡ not (eqb (get_or w (due + j) 0) 0)
            at j l =
                get_d_map (λ (x : ℕ). not (eqb x 0)) (drop due w) 0 false j (omega (arith, length-map (drop due w) (λ (x : ℕ). not (eqb x 0))))
                ∙ ap (λ (x : ℕ). not (eqb x 0)) (get_or-drop due w j 0)

        -- the plain stream
        L : FieldLaws (sheet_field h)
        L = sheet_laws edition1 w

        plain_full : due_of edition1 h ≤ length v
        plain_full = omega (arith, plain_due w passed some full, due_is edition1 h law.paired)

        -- from fold coin 0 on its elements are the batch's, at numbers that are higher
        element : (r : ℕ) → 12 + words_for h h.size ≤ r → element_at h.spelling v r ≡ element_at h.spelling w (r + K)
        element r l =
            let n = words_for h h.size in
            let at = fold_number h N in
            let table = words_of h.spelling (combined_table h (read_batch h.spelling h (drop 12 w))) in
            let z = r - (12 + n) in
            let s : r ≡ 12 + n + z = omega arith in
            let t : at + z ≡ r + K = omega (arith, at_is w passed some full, fold_number_lem w passed some full) in
            ap (element_at h.spelling v) s ∙ sym (at_drop h.spelling v (12 + n) z)
            ∙ ap (λ (l : List ℕ). element_at h.spelling l z) (sym (drop-drop n 12 v) ∙ ap (drop n) (after_sheet w passed some full) ∙ drop_at table (drop at w) n (table_long w passed some full))
            ∙ at_drop h.spelling w at z ∙ ap (element_at h.spelling w) t

        coin_element : (i j : ℕ) → element_at h.spelling v (part_start edition1 h (outs i) + words_for h j) ≡ element_at h.spelling w (part_start edition1 h (outs i) + words_for h j + K)
        coin_element i j = element (part_start edition1 h (outs i) + words_for h j) (omega (arith, outs_after h i, fold_start h))

        -- 7
        domain_finds : Finds (BatchDomainFault h N w) (12 + K) in_domains
        domain_finds = (
          λ j l e. let p = OutsByNumber.domain_sound edition1 h v L law plain_full j l e in
              let r = p.2 in
              let s : 12 + K + j ≡ part_start edition1 h (outs p.0) + words_for h r.0 + K = omega (arith, r.2) in
              (p.0, p.1, (r.0, r.1, s, (r.3.0, r.3.1, ap (element_at h.spelling w) s ∙ sym (coin_element p.0 r.0) ∙ ap (element_at h.spelling v) (sym r.2) ∙ r.3.2))),
          λ q p. let r = p.2 in
              let c = OutsByNumber.domain_complete edition1 h v L law plain_full (part_start edition1 h (outs p.0) + words_for h r.0)
              (p.0, p.1, (r.0, r.1, refl, (r.3.0, r.3.1, coin_element p.0 r.0 ∙ ap (element_at h.spelling w) (sym r.2) ∙ r.3.2))) in
              (c.0, omega (arith, r.2, c.1), c.2, c.3),
        )

        -- 14
        equal_finds : Finds (BatchEqualFault h N w) (12 + K) equals
        equal_finds = (
          λ j l e. let p = OutsByNumber.equal_sound edition1 h v L law plain_full j l e in
              let r = p.2 in
              let s : 12 + K + j ≡ part_start edition1 h (outs p.0) + words_for h r.0 + K = omega (arith, r.2) in (
                p.0,
                p.1,
                (
                  r.0,
                  r.1,
                  s,
                  (
                    r.3.0,
                    r.3.1,
                    ap (element_at h.spelling w) s ∙ sym (coin_element p.0 r.0) ∙ ap (element_at h.spelling v) (sym r.2) ∙ r.3.2 ∙ coin_element p.0 r.3.0,
                  ),
                ),
              ),
          λ q p. let r = p.2 in
              let c = OutsByNumber.equal_complete edition1 h v L law plain_full (part_start edition1 h (outs p.0) + words_for h r.0)
              (p.0, p.1, (r.0, r.1, refl, (r.3.0, r.3.1, coin_element p.0 r.0 ∙ ap (element_at h.spelling w) (sym r.2) ∙ r.3.2 ∙ sym (coin_element p.0 r.3.0)))) in
              (c.0, omega (arith, r.2, c.1), c.2, c.3),
        )

  none_past : (t q : ℕ) → 12 ≤ suc t → P t q → ⊥
  none_past t q l p = subst (λ (x : Test). x.Fault q) (get_or-eq_default (verify_batch_row file) (test 0 NoFault) {n = t} (omega arith)) p

  exact : ExactRow edition1 (verify_batch_row file) 1 row
  unfolding turn_of
  exact =
      exact_if P T suc own 0 0 wrong_length _ length_sound (length_complete edition1 file) (λ n₁.
      exact_at P T suc own 1 0 checks _ (λ q. refl) check_finds.0 check_finds.1 (λ n₂.
      exact_places P T suc own 2 (λ j. get_or (test_order edition1) j 0) rules (first_of (test_order edition1) rules) _
      (first_of_lem (test_order edition1) rules (omega (arith, rules_length edition1 w, rules_counted edition1))) (rules_rise edition1 w) (rule_sound edition1 w) (rule_complete edition1 w) (λ n₃.
      exact_bounds h N (drop 13 w) P T 3 (λ q. refl) (λ q p. p) (λ q p. p) (bounds_there n₁) _ (λ n₁₅.
      exact_if P T suc own 4 place (not (eqb (blocks_in file) place)) _ (blocks_sound n₁ n₃ n₁₅) (blocks_complete n₁ n₃ n₁₅) (λ n₄.
      let p = passed n₁ n₃ n₁₅ in
      let s = some n₁ n₃ n₁₅ in
      let f = full n₁ n₃ n₁₅ n₄ in
      let range = range_finds w p s f in
      let fill = fill_finds n₁ n₃ n₁₅ n₄ in
      let domain = domain_finds n₁ n₃ n₁₅ n₄ in
      let equal = equal_finds n₁ n₃ n₁₅ n₄ in
      let clash = clash_finds edition1 h v (L n₁ n₃ n₁₅ n₄) (plain_full n₁ n₃ n₁₅ n₄) in
      let final = final_finds edition1 h v (L n₁ n₃ n₁₅ n₄) (plain_full n₁ n₃ n₁₅ n₄) in
      exact_at P T suc own 5 (batch_start N) ranges _ (λ q. refl) range.0 range.1 (λ n₅.
      exact_at P T suc own 6 due fills _ (λ q. refl) fill.0 fill.1 (λ n₆.
      exact_at P T suc own 7 (12 + K) in_domains _ (λ q. refl) domain.0 domain.1 (λ n₇.
      exact_at P T suc own 8 (12 + K) equals _ (λ q. refl) equal.0 equal.1 (λ n₁₄.
      exact_at P T suc own 9 1 (clashes edition1 h v 0 M) _ (λ q. refl) clash.0 clash.1 (λ n₈.
      exact_at P T suc own 10 0 (final_tests edition1 h v) accepted (λ q. refl) final.0 final.1 (λ n₉. none_past)))))))))))

  sheet_places : (t q : ℕ) → (test_at (verify_batch_row file) t).number ≡ 3 → P t q → q < 12
  sheet_places zero q e p = absurd (omega arith)
  sheet_places (suc zero) q e p = absurd (omega arith)
  sheet_places (suc (suc zero)) q e p = p.0
  sheet_places (suc (suc (suc zero))) q e p = absurd (omega arith)
  sheet_places (suc (suc (suc (suc zero)))) q e p = absurd (omega arith)
  sheet_places (suc (suc (suc (suc (suc zero))))) q e p = absurd (omega arith)
  sheet_places (suc (suc (suc (suc (suc (suc zero)))))) q e p = absurd (omega arith)
  sheet_places (suc (suc (suc (suc (suc (suc (suc zero))))))) q e p = absurd (omega arith)
  sheet_places (suc (suc (suc (suc (suc (suc (suc (suc zero)))))))) q e p = absurd (omega arith)
  sheet_places (suc (suc (suc (suc (suc (suc (suc (suc (suc zero))))))))) q e p = absurd (omega arith)
  sheet_places (suc (suc (suc (suc (suc (suc (suc (suc (suc (suc zero)))))))))) q e p = absurd (omega arith)
  sheet_places (suc (suc (suc (suc (suc (suc (suc (suc (suc (suc (suc t))))))))))) q e p = absurd (omega arith)

  pub refused_exactly : (n q : ℕ) → ((verify_batch file).outcome ≡ refused n q) ↔ FirstFailure edition1 (verify_batch_row file) n q
  refused_exactly = row_refused edition1 (verify_batch_row file) (verify_batch file).outcome row same exact sheet_places

  pub accepted_exactly : ((verify_batch file).outcome ≡ accepted) ↔ NoFailure (verify_batch_row file)
  accepted_exactly = row_accepted edition1 (verify_batch_row file) (verify_batch file).outcome row same exact sheet_places
