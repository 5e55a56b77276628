-- The reads of deciding are at most 48·16 for each level; and a refusal of an out coin is at a word that is there. Assumes nothing.
use Prim.Native.Nat.{ℕ, zero, suc, ◌+◌, ◌*◌, ◌≤◌, ◌<◌}
use native.Mathlib.Nat.{mul-le-mul}
use native.Mathlib.Omega.{arith}
use mathlib.Core.Bool.{Bool, true, false, cond, ◌||◌, true≢false}
use mathlib.Core.List.{List, [], ◌++◌}
use mathlib.Core.Option.{Option, none, some}
use mathlib.Core.Path.{◌≡◌, sym, ap, ◌∙◌, subst}
use lib.Dec.{eqb}
use lib.ListN.{length, get_or, take, drop, length-append, length-drop, length-take}
use lib.Seq.{get_or-take}
use Rattle.definition.specs.Deciding.{Decision, Place, counted, decide, decide_final, decide_rest, deciding, equal_test, out_in_domain, out_test, out_tests, places_of, reads_of, same_place, treated}
use Rattle.definition.specs.Field.{Element, Field, begun_by}
use Rattle.definition.specs.Layout.{layout, read_transcript, words_due}
use Rattle.definition.specs.Lists.{first_true}
use Rattle.definition.specs.Polynomial.{clash}
use Rattle.definition.specs.Reading.{sheet_test}
use Rattle.definition.specs.Sheet.{Edition, Sheet, first_level, fold_words, sheet_length, sheet_of}
use Rattle.definition.specs.Transcript
use Rattle.definition.specs.Verdict.{Outcome, accepted, refused, then_verdict}
use Rattle.list_laws.specs.Lists.{zip_short}
use Rattle.list_laws.specs.Members.{different_most}
use Rattle.layouts.proofs.Lawful.{lawful, rounds_word}
use Rattle.layouts.specs.LawfulSheets.{Lawful, Paired}
use Rattle.layouts.specs.Levels.{level_of, rounds_of, sheet_field, sheet_root}
use Rattle.layouts.proofs.PlainSheet.{sheet_plain}
use Rattle.layouts.specs.Spellings.{begun_length}
use Rattle.completeness.proofs.Answers.{Refuses, at_refuses, then_refuses}
use Rattle.completeness.specs.DecidedByNumber.{clashes, decide_rounds, decided, final_tests, rest_final, rest_round, rest_after}
use Rattle.completeness.specs.EqualOuts.{repeated_most}
use Rattle.completeness.specs.Faults.{finals, fold, function_in, pairs_in, part_element, part_length, part_words, shifts}
use Rattle.completeness.proofs.Places.{coin_places_count}

treated_few : (js : List ℕ) (f : Option ℕ) → length (treated js f) ≤ length js
unfolding treated
treated_few js none = omega arith
treated_few js (some q) = omega (arith, length-take (suc q) js)

pub part_few : (n : ℕ) (js : List ℕ) → length (take n js) ≤ n
part_few n js = omega (arith, length-take n js)

-- ---- the places used, by number

module _ (ed : Edition) (h : Sheet) (w : List ℕ) (times : (i : ℕ) → i ≤ rounds_of h → get_or h.repetitions i 0 ≤ 48) (folds : (i : ℕ) → i ≤ rounds_of h → get_or h.folds i 0 ≤ 16) where
  abbrev F : Field (Element h.spelling)
  F = sheet_field h

  abbrev ω : Element h.spelling
  ω = sheet_root h

  abbrev M : ℕ
  M = rounds_of h

  level_few : (i : ℕ) (js : List ℕ) → i ≤ M → length js ≤ get_or h.repetitions i 0 → length (places_of (level_of h i) (function_in ed h w i).places js) ≤ 768
  level_few i js l few =
      let a : length js ≤ 48 = omega (arith, times i l) in
      omega (arith, coin_places_count ed h w i js, mul-le-mul a (folds i l))

  shifts_few : (i : ℕ) → length (part_words ed h w (shifts i)) ≤ get_or h.repetitions i 0
  unfolding part_words part_length
  shifts_few i = part_few (level_of h i).repetitions _

  finals_few : length (part_words ed h w finals) ≤ get_or h.repetitions M 0
  unfolding part_words part_length
  finals_few = part_few (level_of h M).repetitions _

  used_few : (m i : ℕ) (before : List Place) → i + m ≡ M →
      length (decide_rest F ω (level_of h i) (function_in ed h w i) (part_element ed h w (fold i) 0) before (rest_after ed h w i m)).used ≤ length before + 768 * suc m
  unfolding decide_rest decide_final function_in pairs_in
  used_few zero i before e =
      let q : i ≡ M = omega arith in
      let js = treated (part_words ed h w finals) (first_true 0 (final_tests ed h w)) in
      let same =
      ap (λ (j : ℕ). length (decide_rest F ω (level_of h j) (function_in ed h w j) (part_element ed h w (fold j) 0) before (rest_after ed h w j 0)).used) q
      ∙ ap (λ (r : Transcript.Rest (Element h.spelling)). length (decide_rest F ω (level_of h M) (function_in ed h w M) (part_element ed h w (fold M) 0) before r).used) (rest_final ed h w) in
      omega (
        arith,
        same,
        length-append before (places_of (level_of h M) (function_in ed h w M).places js),
        level_few M js (omega arith) (omega (arith, treated_few (part_words ed h w finals) (first_true 0 (final_tests ed h w)), finals_few)),
      )
  used_few (suc m) i before e =
      let now = before ++ places_of (level_of h i) (function_in ed h w i).places (part_words ed h w (shifts i)) in
      let long : length now ≤ length before + 768 = omega (arith, length-append before (places_of (level_of h i) (function_in ed h w i).places (part_words ed h w (shifts i))), level_few i (part_words ed h w (shifts i)) (omega arith) (shifts_few i)) in
      subst (λ (r : Transcript.Rest (Element h.spelling)). length (decide_rest F ω (level_of h i) (function_in ed h w i) (part_element ed h w (fold i) 0) before r).used ≤ length before + 768 * suc (suc m)) (sym (rest_round ed h w i m))
      (go now (decide_rest F ω (level_of h (suc i)) (function_in ed h w (suc i)) (part_element ed h w (fold (suc i)) 0) now (rest_after ed h w (suc i) m)) (clash F (pairs_in ed h w i)) long (used_few m (suc i) now (omega arith)))
    where
      go : (now : List Place) (d : Decision) (c : Bool) → length now ≤ length before + 768 → length d.used ≤ length now + 768 * suc m →
          length (cond c (record { outcome = refused 8 (suc i); used = now }) d).used ≤ length before + 768 * suc (suc m)
      go now d true l u = omega arith
      go now d false l u = omega arith

  decided_few : Paired h → reads_of (decide F ω (first_level h) (read_transcript h.spelling h (drop (sheet_length ed) w))).used ≤ 768 * suc M
  unfolding reads_of
  decided_few paired =
      subst (λ (d : Decision). length d.used ≤ 768 * suc M → reads_of d.used ≤ 768 * suc M) (sym (decide_rounds ed h w paired))
      (λ l. omega (arith, l, different_most same_place (decide_rest F ω (level_of h 0) (function_in ed h w 0) (part_element ed h w (fold 0) 0) [] (rest_after ed h w 0 M)).used))
      (subst (λ (d : Decision). length d.used ≤ 768 * suc M) (sym (decide_rounds ed h w paired)) (let z : 0 + 768 * suc M ≡ 768 * suc M = omega arith in subst (λ (n : ℕ). length (decide_rest F ω (level_of h 0) (function_in ed h w 0) (part_element ed h w (fold 0) 0) [] (rest_after ed h w 0 M)).used ≤ n) z (used_few M 0 [] (omega arith))))

-- ---- words that deciding is handed

module _ (ed : Edition) (w : List ℕ) (passed : sheet_test ed w ≡ accepted) (due : words_due ed (sheet_of ed w) ≤ length w) where
  abbrev h : Sheet
  h = sheet_of ed w

  pub sheet_there : sheet_length ed ≤ length w
  unfolding words_due
  sheet_there = omega (arith, due)

  fold_most : (i : ℕ) → i ≤ rounds_of (sheet_of ed w) → get_or (sheet_of ed w).folds i 0 ≤ 16
  unfolding sheet_of
  fold_most i l =
      let m = rounds_word ed w sheet_there passed in
      let word = get_or-take (suc (get_or w 4 0)) (fold_words ed w) i 0 (omega (arith, m)) in
      omega (arith, word, ((sheet_plain ed w passed).fold_range i (omega (arith, m))).1)

  pub reads_few : (deciding ed w).reads ≤ 4608
  unfolding deciding counted then_verdict
  reads_few = go (out_tests h (sheet_length ed) (layout h) w)
    where
      law : Lawful (sheet_of ed w)
      law = lawful ed w sheet_there passed

      go : (o : Outcome) → (then_verdict o (counted (decide (sheet_field h) (sheet_root h) (first_level h) (read_transcript h.spelling h (drop (sheet_length ed) w))))).reads ≤ 4608
      go accepted = omega (arith, decided_few ed h w law.times fold_most law.paired, law.most, law.paired.some)
      go (refused n q) = omega arith

  -- a 7 and a 14 are at words that are there
  abbrev Near : ℕ → ℕ → Type 0
  Near n q = (eqb n 7 || eqb n 14) ≡ true → q < length w

  pub outs_near : Refuses Near (deciding ed w).outcome
  unfolding deciding counted then_verdict out_tests out_test equal_test words_due
  outs_near = go (out_tests h (sheet_length ed) (layout h) w) tests
    where
      tests : Refuses Near (out_tests h (sheet_length ed) (layout h) w)
      tests =
          then_refuses Near (out_test h (sheet_length ed) (layout h) w) _
          (at_refuses Near 7 (sheet_length ed) _ (λ j l e. omega (arith, l, zip_short (out_in_domain h.spelling h) (layout h) (begun_by h.spelling (drop (sheet_length ed) w)), begun_length h.spelling (drop (sheet_length ed) w), length-drop (sheet_length ed) w)))
          (at_refuses Near 14 (sheet_length ed) _ (λ j l e. omega (arith, l, repeated_most (sheet_field h) none (layout h) (begun_by h.spelling (drop (sheet_length ed) w)), begun_length h.spelling (drop (sheet_length ed) w), length-drop (sheet_length ed) w)))

      later : Refuses Near (decide (sheet_field h) (sheet_root h) (first_level h) (read_transcript h.spelling h (drop (sheet_length ed) w))).outcome
      later =
          subst (Refuses Near) (sym (decided ed h w (lawful ed w sheet_there passed).paired))
          (then_refuses Near _ _ (at_refuses Near 8 1 (clashes ed h w 0 (rounds_of h)) (λ j l e. absurd (true≢false (sym e)))) (at_refuses Near 9 0 (final_tests ed h w) (λ j l e. absurd (true≢false (sym e)))))

      go : (o : Outcome) → Refuses Near o → Refuses Near (then_verdict o (counted (decide (sheet_field h) (sheet_root h) (first_level h) (read_transcript h.spelling h (drop (sheet_length ed) w))))).outcome
      go accepted t = later
      go (refused n q) t = t
