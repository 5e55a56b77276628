-- The answers of verify and prove of batches that exist, with the range of each place.
use Prim.Native.Nat.{ℕ, zero, suc, ◌+◌, ◌/◌, ◌%◌, ◌≤◌, ◌<◌}
use native.Mathlib.Omega.{arith}
use Rattle.std.specs.Prelude.{Bool, cond, ◌≡◌, refl, eqb, take, drop, replicate}
use Rattle.std.proofs.Math.Bool.{true, false, not}
use mathlib.Core.List.{List, [], ◌∷◌, ◌++◌, map, zip_with}
use Rattle.std.proofs.Math.Option.{Option, none}
use Rattle.std.proofs.Common.{sym, ◌∙◌}
use Rattle.std.proofs.Math.Path.{ap, subst}
use Rattle.std.proofs.Math.ListN.{length, length-append, length-drop, length-map, length-take}
use borrow.Author.Tests.{eqb-false, eqb-true, not-false}
use Rattle.batch_definition.specs.Batch.{Batch, batch_coefficients_test, batch_coins_test, batch_deciding, batch_function, batch_input_tests, batch_layout, batch_out_tests, batch_range_test, batch_reading, batch_rules, batch_start, batch_test, batch_tests, batch_words, decide_batch, prove_batch, read_batch, sum_of, verify_batch}
use Rattle.definition.specs.Block.{stream_of}
use Rattle.definition.specs.Deciding.{Decision, Function, Place, counted, decide_final, decide_rest, differences, equal_test, out_before, out_in_domain, out_test, out_tests, repeated_outs}
use Rattle.definition.specs.Domain.{fold_at, shift_point}
use Rattle.definition.specs.Field.{Element, Field, begun_by}
use Rattle.definition.specs.Layout.{Kind, coin_kinds, message, read_rest, round_coins}
use Rattle.definition.specs.Lists.{range}
use Rattle.definition.specs.Polynomial.{clash, evaluate}
use Rattle.definition.specs.Prove.{output_test, refusal, sheet_length_test}
use Rattle.definition.specs.Reading.{blocks_test, body_tests, check_test, fill_test, length_test, out_of_range, range_test, sheet_test}
use Rattle.definition.specs.Sheet.{Level, Sheet, between, edition1, final_count, first_level, later_levels, sheet_of}
use Rattle.definition.specs.Verdict.{Outcome, Verdict, ◌then◌, accepted, refused, then_verdict}
use Rattle.list_laws.specs.Booleans.{or_false}
use Rattle.list_laws.specs.Lists.{zip_short}
use Rattle.layouts.specs.FileWords.{stream_length}
use Rattle.layouts.proofs.Lawful.{lawful}
use Rattle.layouts.specs.Levels.{level_of, out_coin_count, rounds_of, sheet_field, sheet_root, words_for}
use Rattle.layouts.specs.Spellings.{begun_length}
use Rattle.layouts.proofs.LevelsByNumber.{level_first, levels_later}
use Rattle.layouts.specs.LawfulSheets.{Paired}
use Rattle.layouts.specs.Tests.{if_passes, then_passes}
use Rattle.completeness.proofs.Answers.{Refuses, at_refuses, finish_refusal, if_refuses, refuses_sheet, then_refuses}
use Rattle.completeness.specs.EqualOuts.{repeated_most}
use Rattle.completeness.specs.FileByNumber.{checks_length}
use Rattle.batches.specs.Batched
use Rattle.batches.specs.Batched.{ProveRefusal, VerifyRefusal, batch_number, batch_sheet}

-- what follows a test that passes
after_refuses : (Q : ℕ → ℕ → Type 0) (a b : Outcome) → Refuses Q a → (a ≡ accepted → Refuses Q b) → Refuses Q (a then b)
unfolding ◌then◌
after_refuses Q accepted b h k = k refl
after_refuses Q (refused n q) b h k = h

verdict_refuses : (Q : ℕ → ℕ → Type 0) (o : Outcome) (v : Verdict) → Refuses Q o → (o ≡ accepted → Refuses Q v.outcome) → Refuses Q (then_verdict o v).outcome
unfolding then_verdict
verdict_refuses Q accepted v h k = k refl
verdict_refuses Q (refused n q) v h k = h

pub by_refuses : (Q : ℕ → ℕ → Type 0) (o : Outcome) (n q : ℕ) → Refuses Q o → o ≡ refused n q → Q n q
by_refuses Q o n q h e = subst (Refuses Q) e h

-- no more tests than kinds
zip_few : {A B C : Type 0} (t : A → B → C) (xs : List A) (ys : List B) → length (zip_with t xs ys) ≤ length xs
unfolding zip_with
zip_few t [] ys = omega arith
zip_few t (x ∷ xs) [] = omega arith
zip_few t (x ∷ xs) (y ∷ ys) = omega (arith, zip_few t xs ys)

repeated_few : {A : Type 0} (F : Field A) (before : Option A) (ks : List Kind) (w : List A) → length (repeated_outs F before ks w) ≤ length ks
unfolding repeated_outs
repeated_few F before [] w = omega arith
repeated_few F before (k ∷ ks) [] = omega arith
repeated_few F before (k ∷ ks) (x ∷ w) = omega (arith, repeated_few F (out_before before k x) ks w)

-- 15: the number at 0, and the bounds from 1 on
test_refuses : (Q : ℕ → ℕ → Type 0) (h : Sheet) (count : ℕ) (bounds : List ℕ) → Q 15 0 → ((m : ℕ) → 1 ≤ m → m ≤ count → Q 15 m) → Refuses Q (batch_test h count bounds)
unfolding batch_test batch_rules
test_refuses Q h count bounds first later = at_refuses Q 15 0 (map not (batch_rules h count bounds)) (λ j l. subst (Q 15) (let e : j ≡ 0 + j = omega arith in e) (go j (omega (arith, l, few))))
  where
    few : length (map not (batch_rules h count bounds)) ≤ suc count
    few = omega (arith, length-map (batch_rules h count bounds) not, length-map (take count bounds) (between 1 h.degree), length-take count bounds)

    go : (j : ℕ) → j < suc count → Q 15 j
    go zero l = first
    go (suc j) l = later (suc j) (omega arith) (omega arith)

-- 8 and 9: the number of a round, and the position of a final index
module _ {A : Type 0} (F : Field A) (ω : A) (Q : ℕ → ℕ → Type 0) where
  final_refuses : (b : Level) (f : Function A) (r : A) (used : List Place) (cs : List A) (js : List ℕ) → ((j : ℕ) → j < length js → Q 9 j) → Refuses Q (decide_final F ω b f r used cs js).outcome
  unfolding decide_final differences
  final_refuses b f r used cs js later =
      at_refuses Q 9 0 _ (λ j l. subst (Q 9) (let e : j ≡ 0 + j = omega arith in e) (later j (omega (arith, l, length-map js (λ i. not (F.equal (evaluate F cs (shift_point F ω b i)) (fold_at F ω b f.value r i)))))))

module _ (h : Sheet) (Q : ℕ → ℕ → Type 0) (clashes : (i : ℕ) → 1 ≤ i → i ≤ rounds_of h → Q 8 i) (differs : (j : ℕ) → j < (level_of h (rounds_of h)).repetitions → Q 9 j) where
  rest_refuses : (m i : ℕ) → i + m ≡ rounds_of h → (f : Function (Element h.spelling)) (r : Element h.spelling) (used : List Place) (w : List ℕ) →
      Refuses Q (decide_rest (sheet_field h) (sheet_root h) (level_of h i) f r used (read_rest h.spelling (out_coin_count h) (level_of h i) (map (level_of h) (range (suc i) m)) w)).outcome
  unfolding decide_rest read_rest range round_coins
  rest_refuses zero i e f r used w =
      final_refuses (sheet_field h) (sheet_root h) Q (level_of h i) f r used _ (take (level_of h i).repetitions (drop (words_for h (final_count (level_of h i))) w)) (λ j l.
      differs j (omega (arith, l, length-take (level_of h i).repetitions (drop (words_for h (final_count (level_of h i))) w), ap (λ (n : ℕ). (level_of h n).repetitions) (let q : i ≡ rounds_of h = omega arith in q))))
  rest_refuses (suc m) i e f r used w = go (clash (sheet_field h) _) _ _ (rest_refuses m (suc i) (omega arith) _ _ _ _)
    where
      go : (c : Bool) (u : List Place) (d : Decision) → Refuses Q d.outcome → Refuses Q (cond c (record { outcome = refused 8 (suc i); used = u }) d).outcome
      go true u d k = clashes (suc i) (omega arith) (omega arith)
      go false u d k = k

  -- from the first level on
  pub batch_refuses : Paired h → (β : Batch (Element h.spelling)) (w : List ℕ) → β.rest ≡ read_rest h.spelling h.out_coins (first_level h) (later_levels h) w → Refuses Q (decide_batch (sheet_field h) (sheet_root h) (first_level h) β).outcome
  unfolding decide_batch
  batch_refuses p β w e =
      subst (Refuses Q) (sym ((λ i. (decide_rest (sheet_field h) (sheet_root h) (first_level h) (batch_function (sheet_field h) (sheet_root h) (first_level h) β) β.fold [] (e i)).outcome)
      ∙ (λ i. (decide_rest (sheet_field h) (sheet_root h) (level_first h i) (batch_function (sheet_field h) (sheet_root h) (first_level h) β) β.fold [] (read_rest h.spelling h.out_coins (level_first h i) (levels_later h p i) w)).outcome)))
      (rest_refuses (rounds_of h) 0 (omega arith) _ _ _ w)

module _ (file : List ℕ) where
  abbrev w : List ℕ
  w = stream_of file

  abbrev h : Sheet
  h = batch_sheet file

  abbrev N : ℕ
  N = batch_number file

  abbrev Q : ℕ → ℕ → Type 0
  Q = VerifyRefusal file

  abbrev ks : List Kind
  ks = batch_layout (batch_sheet file) (batch_number file)

  enough : length_test file ≡ accepted → 12 ≤ length w
  unfolding length_test
  enough e =
      let r = or_false (eqb (length file) 0) (not (eqb (length file % 512) 0)) (if_passes 1 0 _ e) in
      omega (arith, stream_length file, eqb-false (length file) 0 r.0, eqb-true (length file % 512) 0 (not-false _ r.1))

  paired : length_test file ≡ accepted → sheet_test edition1 w ≡ accepted → Paired h
  paired e s = (lawful edition1 w (enough e) s).paired

  reading_refuses : Refuses Q (batch_reading file)
  unfolding batch_reading batch_tests length_test check_test body_tests blocks_test range_test fill_test batch_words
  reading_refuses =
      then_refuses Q (length_test file) _ (if_refuses Q 1 0 _ Batched.VerifyRefusal.length_wrong)
      (then_refuses Q (check_test file) _ (at_refuses Q 2 0 _ (λ j l. Batched.VerifyRefusal.check_wrong (0 + j) (omega (arith, l, checks_length file))))
      (then_refuses Q (sheet_test edition1 w) _ (refuses_sheet Q edition1 w Batched.VerifyRefusal.rule_broken)
      (then_refuses Q (batch_test h N (drop 13 w)) _ (test_refuses Q h N (drop 13 w) Batched.VerifyRefusal.number_wrong Batched.VerifyRefusal.bound_wrong)
      (then_refuses Q (blocks_test (batch_start N + length ks) (length file / 512)) _ (if_refuses Q 4 _ _ Batched.VerifyRefusal.blocks_differ)
      (then_refuses Q (range_test h (batch_start N) ks w) _
      (at_refuses Q 5 (batch_start N) _ (λ j l. Batched.VerifyRefusal.word_over (batch_start N + j) (omega arith) (omega (arith, l, zip_few (out_of_range h) ks (drop (batch_start N) w)))))
      (at_refuses Q 6 (batch_start N + length ks) _ (λ j l. Batched.VerifyRefusal.fill_set (batch_start N + length ks + j) (omega arith)
      (omega (arith, l, length-map (drop (batch_start N + length ks) w) (λ x. not (eqb x 0)), length-drop (batch_start N + length ks) w, stream_length file)))))))))

  outs_refuse : Refuses Q (out_tests h (batch_start N) ks w)
  unfolding out_tests out_test equal_test batch_words
  outs_refuse =
      then_refuses Q (out_test h (batch_start N) ks w) _
      (at_refuses Q 7 (batch_start N) _ (λ j l. Batched.VerifyRefusal.coin_inside (batch_start N + j) (omega arith) (omega (arith, l, zip_few (out_in_domain h.spelling h) ks (begun_by h.spelling (drop (batch_start N) w))))))
      (at_refuses Q 14 (batch_start N) _ (λ j l. Batched.VerifyRefusal.coin_equal (batch_start N + j) (omega arith) (omega (arith, l, repeated_few (sheet_field h) none ks (begun_by h.spelling (drop (batch_start N) w))))))

  -- the tests before the sheet's rules are kept
  passed : batch_reading file ≡ accepted → (length_test file ≡ accepted) × (sheet_test edition1 w ≡ accepted)
  unfolding batch_reading batch_tests
  passed e =
      let a = then_passes (length_test file) _ e in
      (a.0, (then_passes (sheet_test edition1 w) _ (then_passes (check_test file) _ a.1).1).0)

  pub verify_refusals : (n q : ℕ) → (verify_batch file).outcome ≡ refused n q → VerifyRefusal file n q
  unfolding verify_batch batch_deciding counted read_batch
  verify_refusals n q e =
      by_refuses Q (verify_batch file).outcome n q
      (verdict_refuses Q (batch_reading file) _ reading_refuses (λ p.
      verdict_refuses Q (out_tests h (batch_start N) ks w) _ outs_refuse (λ o.
      batch_refuses h Q Batched.VerifyRefusal.pairs_clash Batched.VerifyRefusal.final_differs (paired (passed p).0 (passed p).1) (read_batch h.spelling h (drop 12 w)) _ refl))) e

module _ (w bounds f coins output : List ℕ) where
  pub prove_refusals : (n q : ℕ) → (prove_batch w bounds f coins output).answer ≡ refusal n q → ProveRefusal w bounds f coins n q
  unfolding prove_batch batch_input_tests sheet_length_test batch_coefficients_test batch_coins_test batch_range_test batch_out_tests output_test
  prove_refusals n q e =
      let P = ProveRefusal w bounds f coins in
      let s = sheet_of edition1 w in
      let cs = coin_kinds (batch_layout s (length bounds)) in
      finish_refusal P _ _ n q _ output
      (then_refuses P (sheet_length_test edition1 w) _ (if_refuses P 10 0 _ Batched.ProveRefusal.sheet_length_case)
      (then_refuses P (sheet_test edition1 w) _ (refuses_sheet P edition1 w Batched.ProveRefusal.rule_broken)
      (then_refuses P (batch_test s (length bounds) bounds) _ (test_refuses P s (length bounds) bounds Batched.ProveRefusal.number_wrong Batched.ProveRefusal.bound_wrong)
      (then_refuses P (batch_coefficients_test s bounds f) _ (if_refuses P 10 1 _ Batched.ProveRefusal.coefficient_count)
      (then_refuses P (batch_coins_test cs coins) _ (if_refuses P 10 2 _ Batched.ProveRefusal.coin_count)
      (then_refuses P (batch_range_test s (sum_of bounds) cs (f ++ coins)) _
      (at_refuses P 5 0 _ (λ j l. Batched.ProveRefusal.word_over (0 + j) (omega (arith, l, zip_short (out_of_range s) (replicate (words_for s (sum_of bounds)) message ++ cs) (f ++ coins), length-append f coins))))
      (then_refuses P (batch_out_tests s cs coins) _
      (then_refuses P _ _ (at_refuses P 7 0 _ (λ j l. Batched.ProveRefusal.coin_inside (0 + j) (omega (arith, l, zip_short (out_in_domain s.spelling s) cs (begun_by s.spelling coins), begun_length s.spelling coins))))
      (at_refuses P 14 0 _ (λ j l. Batched.ProveRefusal.coin_equal (0 + j) (omega (arith, l, repeated_most (sheet_field s) none cs (begun_by s.spelling coins), begun_length s.spelling coins)))))
      (if_refuses P 11 _ _ Batched.ProveRefusal.output_short)))))))) e
