-- Verify finds the first fault: its tests are gone through one by one, each against what it is to be a fault of its number.
use Rattle.std.specs.Prelude.{ℕ, zero, suc, ◌+◌, ◌-◌, ◌%◌, ◌≤◌, ◌<◌, Bool, ◌||◌, ◌≡◌, ltb, length, drop}
use Rattle.std.proofs.Common.{zero-add, arith, true≢false, sym, ◌∙◌, length-drop}
use Rattle.std.proofs.Math.Bool.{true, false, cond, not}
use mathlib.Core.List.{List, [], ◌∷◌, map, zip_with}
use Rattle.std.proofs.Math.Option.{none}
use Rattle.std.proofs.Math.Path.{refl, ap, subst}
use Rattle.std.proofs.Math.Dec.{eqb, leb}
use Rattle.std.proofs.Math.ListN.{get_or, length-map, get_or-eq_default}
use Rattle.std.proofs.Math.Seq.{get_or-drop}
use borrow.Author.Tests.{eq-eqb, eqb-false, eqb-true, le-leb, leb-true, ltb-false, ltb-true, ne_eqb, not-true}
use Rattle.definition.specs.Block.{block_count, file_blocks, stream_of, wrong_checks}
use Rattle.definition.specs.Deciding.{counted, decide, deciding, differences, equal_test, out_in_domain, out_test, out_tests, repeated_outs}
use Rattle.definition.specs.Domain.{fold_at, shift_point}
use Rattle.definition.specs.Field.{Element, Field, Spelling, begun_by, number_in}
use Rattle.definition.specs.Layout.{Kind, layout, limit, message, out, out_layout, read_transcript, words_due}
use Rattle.definition.specs.Lists.{first_of, first_true, range}
use Rattle.definition.specs.Polynomial.{clash, evaluate}
use Rattle.definition.specs.Reading.{blocks_test, body_tests, check_test, fill_test, length_test, out_of_range, range_test, reading, sheet_test, stream_tests}
use Rattle.definition.specs.Sheet.{Edition, Sheet, first_level, sheet_length, sheet_of, sheet_rules, test_order}
use Rattle.definition.specs.Verdict.{Outcome, Verdict, ◌then◌, accepted, refuse_at, refused, then_verdict}
use Rattle.definition.specs.Verify.{verify_in}
use Rattle.list_laws.specs.Booleans.{is_false}
use Rattle.list_laws.specs.First.{first_of_lem}
use Rattle.list_laws.specs.Lists.{get_d_map, get_d_map_range, range_length}
use Rattle.algebra.specs.Laws.{FieldLaws}
use Rattle.layouts.specs.FileWords.{stream_length}
use Rattle.layouts.proofs.Lawful.{lawful}
use Rattle.layouts.specs.LawfulSheets.{Lawful, Paired}
use Rattle.layouts.specs.Levels.{level_of, out_coin_count, rounds_of, sheet_field, sheet_root}
use Rattle.layouts.specs.PlainRules.{word_turn}
use Rattle.layouts.proofs.RulesByWord.{rules_counted, rule_at, rule_of_word, rules_length, sheet_exactly, turn_of_word, turns_differ, word_of_turn}
use Rattle.layouts.specs.SheetRules.{short_sheet}
use Rattle.completeness.specs.DecidedByNumber.{clashes, decided, final_tests}
use Rattle.completeness.specs.Faults.{BlocksFault, CheckFault, ClashFault, DomainFault, EqualFault, Fault, FillFault, FinalFault, LengthFault, NoFault, Part, PartDue, RangeFault, RuleFault, blocks_in, combination, due_of, faults_of, finals, fold, function_in, number_turn, outs, pairs_in, part_element, part_elements, part_length, part_limit, part_start, part_word, part_words, sheet_in, shifts, turn_of, words}
use Rattle.completeness.specs.FileByNumber.{check_at, checks_length}
use Rattle.completeness.specs.FirstFaults.{Exact, exact_at, exact_if, exact_places}
use Rattle.completeness.specs.Numbered.{final}
use Rattle.completeness.specs.OutsByNumber
use Rattle.completeness.specs.PairsByNumber.{part_length_lem, part_word_lem}
use Rattle.completeness.specs.PartsByNumber.{due_is, every_word, outs_cases, outs_first, part_below, part_kind_lem, part_kind}
use Rattle.completeness.specs.Ready.{sheet_laws}
use Rattle.completeness.specs.TestsByNumber.{clash_found, clash_there, differ, differs, element_differ, element_differs, zip_at, zip_length}

then_outcome : (o : Outcome) (v : Verdict) → (then_verdict o v).outcome ≡ (o then v.outcome)
unfolding then_verdict ◌then◌
then_outcome accepted v = refl
then_outcome (refused n q) v = refl

pub then_assoc : (a b c : Outcome) → ((a then b) then c) ≡ (a then (b then c))
unfolding ◌then◌
then_assoc accepted b c = refl
then_assoc (refused n q) b c = refl

pub then_accepted : (o : Outcome) → o ≡ (o then accepted)
unfolding ◌then◌
then_accepted accepted = refl
then_accepted (refused n q) = refl

-- the limit of a part is that of its kind, and an out coin's kind alone is tested against a domain
pub kind_limit : (h : Sheet) (x : Part) (j : ℕ) → j < part_length h x → limit h.prime (part_kind h x j) ≡ part_limit h x
unfolding limit part_kind part_limit part_length
kind_limit h (words m) j l = refl
kind_limit h (outs i) j l =
    let o = out_layout h.spelling (out_coin_count h) (level_of h (suc i)) in
    outs_cases h.spelling (out_coin_count h) (level_of h (suc i)) j l
    (λ m u e. ap (λ (n : ℕ). limit h.prime (get_or o n message)) e ∙ ap (limit h.prime) (outs_first h.spelling (out_coin_count h) (level_of h (suc i)) m u)) (λ c. ap (limit h.prime) c)
kind_limit h (combination i) j l = refl
kind_limit h (fold i) j l = refl
kind_limit h (shifts i) j l = refl
kind_limit h finals j l = refl

-- no two numbers have one turn
pub own_turn : (m n : ℕ) → number_turn m ≡ number_turn n → m ≡ n
own_turn m n e = go (eqb m 14) (eqb n 14) (ltb m 8) (ltb n 8) refl refl refl refl e
  where
    go : (a b c d : Bool) → eqb m 14 ≡ a → eqb n 14 ≡ b → ltb m 8 ≡ c → ltb n 8 ≡ d → cond a 8 (cond c m (suc m)) ≡ cond b 8 (cond d n (suc n)) → m ≡ n
    go true true c d p q r s e = eqb-true m 14 p ∙ sym (eqb-true n 14 q)
    go true false c true p q r s e = absurd (omega (arith, ltb-true n 8 s))
    go true false c false p q r s e = absurd (omega (arith, ltb-false n 8 s))
    go false true true d p q r s e = absurd (omega (arith, ltb-true m 8 r))
    go false true false d p q r s e = absurd (omega (arith, ltb-false m 8 r))
    go false false true true p q r s e = e
    go false false true false p q r s e = absurd (omega (arith, ltb-true m 8 r, ltb-false n 8 s))
    go false false false true p q r s e = absurd (omega (arith, ltb-false m 8 r, ltb-true n 8 s))
    go false false false false p q r s e = omega arith

pub numbers_in_order : map number_turn (1 ∷ 2 ∷ 3 ∷ 4 ∷ 5 ∷ 6 ∷ 7 ∷ 14 ∷ 8 ∷ 9 ∷ []) ≡ range 1 10
unfolding range
numbers_in_order = refl

-- not false
pub is_true : (b : Bool) → ((b ≡ true → ⊥) → ⊥) → b ≡ true
is_true true h = refl
is_true false h = absurd (h (λ e. true≢false (sym e)))

-- 3: what the sheet's test finds, of any words, is a broken rule
module _ (ed : Edition) (w : List ℕ) where
  pub rule_sound : (j : ℕ) → j < length (map not (sheet_rules ed w)) → get_or (map not (sheet_rules ed w)) j false ≡ true → RuleFault ed w (get_or (test_order ed) j 0)
  rule_sound j l e =
      let u : j < sheet_length ed = omega (arith, rules_length ed w) in
      ((turn_of_word ed j u).1, λ k. true≢false (sym k ∙ not-true _ (sym (rule_of_word ed w j u) ∙ e)))

  pub rule_complete : (q : ℕ) → RuleFault ed w q → (j : ℕ) × (q ≡ get_or (test_order ed) j 0) × (j < length (map not (sheet_rules ed w))) × (get_or (map not (sheet_rules ed w)) j false ≡ true)
  rule_complete q p =
      let t = word_of_turn ed q p.0 in
      (word_turn ed q, sym t.0, omega (arith, t.1, rules_length ed w), rule_at ed w (word_turn ed q) t.1 ∙ ap not (is_false _ p.1))

  -- the rules are in the order of their words' turns
  pub rules_rise : (i j : ℕ) → i < length (map not (sheet_rules ed w)) → j < length (map not (sheet_rules ed w)) →
      turn_of ed 3 (get_or (test_order ed) i 0) < turn_of ed 3 (get_or (test_order ed) j 0) → i < j
  unfolding turn_of
  rules_rise i j li lj l =
      let a = turn_of_word ed i (omega (arith, rules_length ed w)) in
      let b = turn_of_word ed j (omega (arith, rules_length ed w)) in
      omega (arith, a.0, b.0)

module _ (ed : Edition) (file : List ℕ) where
  abbrev w : List ℕ
  w = stream_of file

  abbrev h : Sheet
  h = sheet_of ed (stream_of file)

  abbrev P : ℕ → (ℕ → Type 0)
  P = Fault ed file

  abbrev T : ℕ → ℕ → ℕ
  T = turn_of ed

  abbrev σ : Spelling
  σ = (sheet_in ed file).spelling

  abbrev F : Field (Element (sheet_in ed file).spelling)
  F = sheet_field (sheet_in ed file)

  abbrev ω : Element (sheet_in ed file).spelling
  ω = sheet_root (sheet_in ed file)

  abbrev M : ℕ
  M = rounds_of (sheet_in ed file)

  abbrev decision : Outcome
  decision = (decide (sheet_field (sheet_in ed file)) (sheet_root (sheet_in ed file)) (first_level (sheet_in ed file))
      (read_transcript (sheet_in ed file).spelling (sheet_in ed file) (drop (sheet_length ed) (stream_of file)))).outcome

  L : FieldLaws (sheet_field (sheet_in ed file))
  L = sheet_laws ed (stream_of file)

  -- the outcome as one row of tests
  in_order : (verify_in ed file).outcome
      ≡ (length_test file then check_test file then sheet_test ed w then blocks_test (words_due ed h) (blocks_in file) then range_test h (sheet_length ed) (layout h) w then fill_test (words_due ed h) w then out_test h (sheet_length ed) (layout h) w then equal_test h (sheet_length ed) (layout h) w then decision)
  unfolding verify_in reading stream_tests body_tests deciding out_tests words_due counted
  in_order =
      then_outcome (reading ed file) (deciding ed w)
      ∙ ap (λ (o : Outcome). reading ed file then o) (then_outcome (out_tests h (sheet_length ed) (layout h) w) _ ∙ then_assoc (out_test h (sheet_length ed) (layout h) w) _ _)
      ∙ then_assoc (length_test file) _ _ ∙ ap (λ (o : Outcome). length_test file then o) (then_assoc (check_test file) _ _
      ∙ ap (λ (o : Outcome). check_test file then o) (then_assoc (sheet_test ed w) _ _
      ∙ ap (λ (o : Outcome). sheet_test ed w then o) (then_assoc (blocks_test (words_due ed h) (blocks_in file)) _ _
      ∙ ap (λ (o : Outcome). blocks_test (words_due ed h) (blocks_in file) then o) (then_assoc (range_test h (sheet_length ed) (layout h) w) _ _))))

  -- 1
  abbrev wrong_length : Bool
  wrong_length = eqb (length file) 0 || not (eqb (length file % 512) 0)

  length_sound : wrong_length ≡ true → LengthFault file 0
  length_sound e = (refl, λ g. true≢false (sym e ∙ (λ i. ne_eqb (length file) 0 (omega (arith, g.0)) i || not (eq-eqb (length file % 512) 0 g.1 i))))

  pub length_complete : (q : ℕ) → LengthFault file q → (q ≡ 0) × (wrong_length ≡ true)
  length_complete q p = (p.0, go (eqb (length file) 0) refl (eqb (length file % 512) 0) refl)
    where
      go : (a : Bool) → eqb (length file) 0 ≡ a → (b : Bool) → eqb (length file % 512) 0 ≡ b → (a || not b) ≡ true
      go true u b v = refl
      go false u false v = refl
      go false u true v = absurd (p.1 (let z : length file ≡ 0 → ⊥ = eqb-false (length file) 0 u in omega arith, eqb-true _ _ v))

  -- 2
  check_sound : (b : ℕ) → b < length (wrong_checks 0 (file_blocks file)) → get_or (wrong_checks 0 (file_blocks file)) b false ≡ true → CheckFault file (0 + b)
  check_sound b l e =
      let u : b < blocks_in file = omega (arith, checks_length file) in
      subst (CheckFault file) (sym (zero-add b)) (u, differ _ _ (sym (check_at file b u) ∙ e))

  check_complete : (q : ℕ) → CheckFault file q → (j : ℕ) × (q ≡ 0 + j) × (j < length (wrong_checks 0 (file_blocks file))) × (get_or (wrong_checks 0 (file_blocks file)) j false ≡ true)
  check_complete q p = (q, sym (zero-add q), omega (arith, p.0, checks_length file), check_at file q p.0 ∙ differs _ _ p.1)

  -- what has passed, for the tests after it
  module _ (whole : (q : ℕ) → LengthFault file q → ⊥) (ruled : (q : ℕ) → RuleFault ed w q → ⊥) where
    some_block : 1 ≤ blocks_in file
    some_block = go (eqb (length file) 0) refl (eqb (length file % 512) 0) refl
      where
        go : (a : Bool) → eqb (length file) 0 ≡ a → (b : Bool) → eqb (length file % 512) 0 ≡ b → 1 ≤ blocks_in file
        go true u b v = let z = eqb-true (length file) 0 u in absurd (whole 0 (refl, λ g. omega (arith, g.0)))
        go false u false v = absurd (whole 0 (refl, λ g. eqb-false _ _ v g.1))
        go false u true v = let z : length file ≡ 0 → ⊥ = eqb-false (length file) 0 u in omega (arith, eqb-true (length file % 512) 0 v)

    sheet_passes : sheet_test ed w ≡ accepted
    sheet_passes = (sheet_exactly ed w).1 (λ i l. is_true _ (λ k. ruled i (l, k)))

    law : Lawful h
    law = lawful ed w (omega (arith, short_sheet ed, stream_length file, some_block)) sheet_passes

    pub long : Paired h
    long = law.paired

    due : words_due ed h ≡ due_of ed h
    due = due_is ed h long

    -- 4
    blocks_sound : not (eqb (blocks_in file) (block_count (words_due ed h))) ≡ true → BlocksFault ed file (block_count (words_due ed h))
    blocks_sound e = (ap block_count due, differ _ _ e)

    pub blocks_complete : (q : ℕ) → BlocksFault ed file q → (q ≡ block_count (words_due ed h)) × (not (eqb (blocks_in file) (block_count (words_due ed h))) ≡ true)
    blocks_complete q p =
        let e : q ≡ block_count (words_due ed h) = p.0 ∙ ap block_count (sym due) in
        (e, differs _ _ (λ k. p.1 (k ∙ sym e)))

    module _ (counted : (q : ℕ) → BlocksFault ed file q → ⊥) where
      pub all_due : due_of ed h ≤ length w
      unfolding block_count
      all_due =
          let e : blocks_in file ≡ block_count (due_of ed h) = eqb-true _ _ (is_true _ (λ k. counted (block_count (due_of ed h)) (refl, λ g. k (eq-eqb _ _ g)))) in
          omega (arith, e, stream_length file)

      abbrev pub kinds : List Kind
      kinds = layout (sheet_in ed file)

      pub kinds_length : sheet_length ed + length kinds ≡ due_of ed h
      unfolding words_due
      kinds_length = due

      pub enough : length kinds ≤ length (drop (sheet_length ed) w)
      enough = omega (arith, length-drop (sheet_length ed) w, all_due, kinds_length)

      -- the elements that the words after the sheet begin
      abbrev begun : List (Element (sheet_in ed file).spelling)
      begun = begun_by (sheet_in ed file).spelling (drop (sheet_length ed) (stream_of file))

      -- a test of each word after the sheet, or of what it begins
      module _ {A : Type 0} (t : Kind → A → Bool) (z : A) (xs : List A) (same : length xs ≡ length (drop (sheet_length ed) w)) where
        word_tested : (j : ℕ) → j < length kinds → get_or (zip_with t kinds xs) j false ≡ t (get_or kinds j message) (get_or xs j z)
        word_tested j l = zip_at t message z kinds xs j l (omega (arith, enough))

        tested_length : length (zip_with t kinds xs) ≡ length kinds
        tested_length = zip_length t message z kinds xs (omega (arith, enough))

        word_fails : (j : ℕ) → j < length (zip_with t kinds xs) → get_or (zip_with t kinds xs) j false ≡ true →
            (x : Part) × PartDue h x × ((i : ℕ) × (i < part_length h x) × (sheet_length ed + j ≡ part_start ed h x + i) × (t (part_kind h x i) (get_or xs j z) ≡ true))
        word_fails j l e =
            let u : j < length kinds = omega (arith, tested_length) in
            let p = every_word ed h (sheet_length ed + j) (omega arith) (omega (arith, kinds_length)) in (
              p.0,
              p.1,
              (
                p.2.0,
                p.2.1,
                p.2.2,
                ap (λ (k : Kind). t k (get_or xs j z)) (sym (part_kind_lem ed h long p.0 p.1 p.2.0 p.2.1 j p.2.2)) ∙ sym (word_tested j u) ∙ e,
              ),
            )

        failing_word : (x : Part) → PartDue h x → (i q : ℕ) → i < part_length h x → q ≡ part_start ed h x + i → t (part_kind h x i) (get_or xs (q - sheet_length ed) z) ≡ true →
            (j : ℕ) × (q ≡ sheet_length ed + j) × (j < length (zip_with t kinds xs)) × (get_or (zip_with t kinds xs) j false ≡ true)
        failing_word x d i q l e f =
            let b = part_below ed h x d i l in
            let j = q - sheet_length ed in
            let s : q ≡ sheet_length ed + j = omega (arith, b) in
            let u : j < length kinds = omega (arith, b, kinds_length) in
            (j, s, omega (arith, tested_length), word_tested j u ∙ (λ y. t (part_kind_lem ed h long x d i l j (sym s ∙ e) y) (get_or xs j z)) ∙ f)

      -- 5
      range_sound : (j : ℕ) → j < length (zip_with (out_of_range h) kinds (drop (sheet_length ed) w)) → get_or (zip_with (out_of_range h) kinds (drop (sheet_length ed) w)) j false ≡ true → RangeFault ed h w (sheet_length ed + j)
      unfolding out_of_range
      range_sound j l e =
          let r = word_fails (out_of_range h) 0 (drop (sheet_length ed) w) refl j l e in
          let x = get_or-drop (sheet_length ed) w j 0 in
          (r.0, r.1, (r.2.0, r.2.1, r.2.2, leb-true _ _ ((λ y. leb (sym (kind_limit h r.0 r.2.0 r.2.1) y) (sym x y)) ∙ r.2.3)))

      range_complete : (q : ℕ) → RangeFault ed h w q →
          (j : ℕ) × (q ≡ sheet_length ed + j) × (j < length (zip_with (out_of_range h) kinds (drop (sheet_length ed) w))) × (get_or (zip_with (out_of_range h) kinds (drop (sheet_length ed) w)) j false ≡ true)
      unfolding out_of_range
      range_complete q p =
          let b = part_below ed h p.0 p.1 p.2.0 p.2.1 in
          let s : sheet_length ed + (q - sheet_length ed) ≡ q = omega (arith, b, p.2.2) in
          let x : get_or (drop (sheet_length ed) w) (q - sheet_length ed) 0 ≡ get_or w q 0 = get_or-drop (sheet_length ed) w (q - sheet_length ed) 0 ∙ ap (λ (n : ℕ). get_or w n 0) s in
          failing_word (out_of_range h) 0 (drop (sheet_length ed) w) refl p.0 p.1 p.2.0 q p.2.1 p.2.2 ((λ y. leb (kind_limit h p.0 p.2.0 p.2.1 y) (x y)) ∙ le-leb _ _ p.2.3)

      -- 6
      abbrev fill_tests : List Bool
      fill_tests = map (λ (x : ℕ). not (eqb x 0)) (drop (words_due ed (sheet_in ed file)) (stream_of file))

      fill_length : length fill_tests ≡ length w - due_of ed h
      fill_length = length-map (drop (words_due ed h) w) _ ∙ length-drop (words_due ed h) w ∙ ap (λ (n : ℕ). length w - n) due

      fill_at : (j : ℕ) → j < length fill_tests → get_or fill_tests j false ≡ not (eqb (get_or w (words_due ed h + j) 0) 0)
      fill_at j l =
          get_d_map (λ (x : ℕ). not (eqb x 0)) (drop (words_due ed h) w) 0 false j (omega (arith, length-map (drop (words_due ed h) w) (λ (x : ℕ). not (eqb x 0))))
          ∙ ap (λ (x : ℕ). not (eqb x 0)) (get_or-drop (words_due ed h) w j 0)

      fill_sound : (j : ℕ) → j < length fill_tests → get_or fill_tests j false ≡ true → FillFault ed file (words_due ed h + j)
      fill_sound j l e = (omega (arith, due), omega (arith, due, fill_length, stream_length file), differ _ 0 (sym (fill_at j l) ∙ e))

      fill_complete : (q : ℕ) → FillFault ed file q → (j : ℕ) × (q ≡ words_due ed h + j) × (j < length fill_tests) × (get_or fill_tests j false ≡ true)
      fill_complete q p =
          let j = q - words_due ed h in
          let s : q ≡ words_due ed h + j = omega (arith, p.0, due) in
          let l : j < length fill_tests = omega (arith, p.0, p.1, due, fill_length, stream_length file) in
          (j, s, l, fill_at j l ∙ differs _ 0 (λ k. p.2 (ap (λ (n : ℕ). get_or w n 0) s ∙ k)))

      -- 7 and 14
      domain_sound : (j : ℕ) → j < length (zip_with (out_in_domain σ h) kinds begun) → get_or (zip_with (out_in_domain σ h) kinds begun) j false ≡ true → DomainFault ed h w (sheet_length ed + j)
      domain_sound = OutsByNumber.domain_sound ed h w L law all_due

      pub domain_complete : (q : ℕ) → DomainFault ed h w q →
          (j : ℕ) × (q ≡ sheet_length ed + j) × (j < length (zip_with (out_in_domain σ h) kinds begun)) × (get_or (zip_with (out_in_domain σ h) kinds begun) j false ≡ true)
      domain_complete = OutsByNumber.domain_complete ed h w L law all_due

      equal_sound : (j : ℕ) → j < length (repeated_outs F none kinds begun) → get_or (repeated_outs F none kinds begun) j false ≡ true → EqualFault ed h w (sheet_length ed + j)
      equal_sound = OutsByNumber.equal_sound ed h w L law all_due

      pub equal_complete : (q : ℕ) → EqualFault ed h w q →
          (j : ℕ) × (q ≡ sheet_length ed + j) × (j < length (repeated_outs F none kinds begun)) × (get_or (repeated_outs F none kinds begun) j false ≡ true)
      equal_complete = OutsByNumber.equal_complete ed h w L law all_due

      -- 8
      clashes_length : length (clashes ed h w 0 M) ≡ M
      clashes_length = length-map (range 0 M) _ ∙ range_length 0 M

      clash_at : (j : ℕ) → j < M → get_or (clashes ed h w 0 M) j false ≡ clash F (pairs_in ed h w j)
      clash_at j l = get_d_map_range (λ i. clash F (pairs_in ed h w i)) false 0 M j l ∙ ap (λ (i : ℕ). clash F (pairs_in ed h w i)) (zero-add j)

      clash_sound : (j : ℕ) → j < length (clashes ed h w 0 M) → get_or (clashes ed h w 0 M) j false ≡ true → ClashFault ed h w (1 + j)
      clash_sound j l e =
          let u : j < M = omega (arith, clashes_length) in
          let r = clash_found F L ω (record { point = number_in σ 0; value = number_in σ 0 }) (pairs_in ed h w j) (sym (clash_at j u) ∙ e) in
          (j, u, omega arith, (r.0, r.1, r.2, r.3, λ g. r.4.1 (g r.4.0)))

      clash_complete : (q : ℕ) → ClashFault ed h w q → (j : ℕ) × (q ≡ 1 + j) × (j < length (clashes ed h w 0 M)) × (get_or (clashes ed h w 0 M) j false ≡ true)
      clash_complete q p =
          let r = p.3 in (
            p.0,
            omega (arith, p.2),
            omega (arith, p.1, clashes_length),
            clash_at p.0 p.1 ∙ clash_there F L ω (record { point = number_in σ 0; value = number_in σ 0 }) (pairs_in ed h w p.0) r.0 r.1 r.2 r.3 r.4,
          )

      -- 9
      final_length : length (final_tests ed h w) ≡ part_length h finals
      unfolding differences
      final_length = length-map (part_words ed h w finals) _ ∙ part_length_lem ed h w all_due finals tt

      final_at : (j : ℕ) → j < part_length h finals → get_or (final_tests ed h w) j false
          ≡ not (F.equal (evaluate F (part_elements ed h w (words final)) (shift_point F ω (level_of h M) (part_word ed h w finals j)))
          (fold_at F ω (level_of h M) (function_in ed h w M).value (part_element ed h w (fold M) 0) (part_word ed h w finals j)))
      unfolding differences
      final_at j l =
          get_d_map (λ (y : ℕ). not (F.equal (evaluate F (part_elements ed h w (words final)) (shift_point F ω (level_of h M) y)) (fold_at F ω (level_of h M) (function_in ed h w M).value (part_element ed h w (fold M) 0) y)))
          (part_words ed h w finals) 0 false j (omega (arith, part_length_lem ed h w all_due finals tt))
          ∙ ap (λ (y : ℕ). not (F.equal (evaluate F (part_elements ed h w (words final)) (shift_point F ω (level_of h M) y)) (fold_at F ω (level_of h M) (function_in ed h w M).value (part_element ed h w (fold M) 0) y))) (part_word_lem ed h w all_due finals j l)

      final_sound : (j : ℕ) → j < length (final_tests ed h w) → get_or (final_tests ed h w) j false ≡ true → FinalFault ed h w (0 + j)
      final_sound j l e =
          let u : j < part_length h finals = omega (arith, final_length) in
          subst (FinalFault ed h w) (sym (zero-add j)) (u, element_differ F L _ _ (sym (final_at j u) ∙ e))

      final_complete : (q : ℕ) → FinalFault ed h w q → (j : ℕ) × (q ≡ 0 + j) × (j < length (final_tests ed h w)) × (get_or (final_tests ed h w) j false ≡ true)
      final_complete q p = (q, sym (zero-add q), omega (arith, p.0, final_length), final_at q p.0 ∙ element_differs F L _ _ p.1)

  -- there is no fault at a turn past that of 9, and none at turn 0
  none_past : (n q : ℕ) → 11 ≤ number_turn n → P n q → ⊥
  none_past n q l p = subst (λ (f : ℕ → Type 0). f q) (get_or-eq_default (faults_of ed file) NoFault {n = number_turn n} l) p

  pub numbered : (n q : ℕ) → P n q → 1 ≤ number_turn n
  numbered n q p = go (number_turn n) p
    where
      go : (t : ℕ) → get_or (faults_of ed file) t NoFault q → 1 ≤ t
      go zero p = absurd p
      go (suc t) p = omega arith

  -- no two faults of one number have one turn
  pub apart : (n q r : ℕ) → P n q → P n r → turn_of ed n q ≡ turn_of ed n r → q ≡ r
  unfolding turn_of
  apart n q r p u e = go (eqb n 3) refl e
    where
      go : (b : Bool) → eqb n 3 ≡ b → cond b (word_turn ed q) q ≡ cond b (word_turn ed r) r → q ≡ r
      go true t f =
          let three : n ≡ 3 = eqb-true n 3 t in
          turns_differ ed q r (subst (λ (m : ℕ). P m q) three p).0 (subst (λ (m : ℕ). P m r) three u).0 f
      go false t f = f

  -- Verify finds the first fault.
  pub exact : Exact (Fault ed file) (turn_of ed) number_turn own_turn 1 (verify_in ed file).outcome
  unfolding length_test check_test sheet_test blocks_test range_test fill_test out_test equal_test turn_of
  exact = subst (Exact P T number_turn own_turn 1) (sym in_order)
      (exact_if P T number_turn own_turn 1 0 wrong_length _ length_sound length_complete (λ n₁.
      exact_at P T number_turn own_turn 2 0 (wrong_checks 0 (file_blocks file)) _ (λ q. refl) check_sound check_complete (λ n₂.
      exact_places P T number_turn own_turn 3 (λ j. get_or (test_order ed) j 0) (map not (sheet_rules ed w)) (first_of (test_order ed) (map not (sheet_rules ed w))) _
      (first_of_lem (test_order ed) (map not (sheet_rules ed w)) (omega (arith, rules_length ed w, rules_counted ed))) (rules_rise ed w) (rule_sound ed w) (rule_complete ed w) (λ n₃.
      exact_if P T number_turn own_turn 4 (block_count (words_due ed h)) (not (eqb (blocks_in file) (block_count (words_due ed h)))) _ (blocks_sound n₁ n₃) (blocks_complete n₁ n₃) (λ n₄.
      exact_at P T number_turn own_turn 5 (sheet_length ed) (zip_with (out_of_range h) (layout h) (drop (sheet_length ed) w)) _ (λ q. refl) (range_sound n₁ n₃ n₄) (range_complete n₁ n₃ n₄) (λ n₅.
      exact_at P T number_turn own_turn 6 (words_due ed h) (map (λ (x : ℕ). not (eqb x 0)) (drop (words_due ed h) w)) _ (λ q. refl) (fill_sound n₁ n₃ n₄) (fill_complete n₁ n₃ n₄) (λ n₆.
      exact_at P T number_turn own_turn 7 (sheet_length ed) (zip_with (out_in_domain σ h) (layout h) (begun_by σ (drop (sheet_length ed) w))) _ (λ q. refl) (domain_sound n₁ n₃ n₄) (domain_complete n₁ n₃ n₄) (λ n₇.
      exact_at P T number_turn own_turn 14 (sheet_length ed) (repeated_outs F none (layout h) (begun_by σ (drop (sheet_length ed) w))) _ (λ q. refl) (equal_sound n₁ n₃ n₄) (equal_complete n₁ n₃ n₄) (λ n₁₄.
      subst (Exact P T number_turn own_turn 9) (sym (decided ed h w (long n₁ n₃)))
      (exact_at P T number_turn own_turn 8 1 (clashes ed h w 0 M) _ (λ q. refl) (clash_sound n₁ n₃ n₄) (clash_complete n₁ n₃ n₄) (λ n₈.
      subst (Exact P T number_turn own_turn 10) (sym (then_accepted (refuse_at 9 (first_true 0 (final_tests ed h w)))))
      (exact_at P T number_turn own_turn 9 0 (final_tests ed h w) accepted (λ q. refl) (final_sound n₁ n₃ n₄) (final_complete n₁ n₃ n₄) (λ n₉. none_past)))))))))))))
