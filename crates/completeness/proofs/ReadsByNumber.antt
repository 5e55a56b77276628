-- The reads of a verdict go with its outcome: k_i for each different index of level i that deciding comes to.
use Prim.Native.Nat.{ℕ, zero, suc, ◌+◌, ◌-◌, ◌/◌, ◌≤◌, ◌<◌}
use Rattle.std.proofs.Math.Decide.{dec_lt}
use native.Mathlib.Omega.{arith}
use Rattle.std.specs.Prelude.{Bool, true, false, cond, ◌≡◌, length, take, drop}
use mathlib.Core.List.{List, [], ◌∷◌, ◌++◌, map}
use Rattle.std.proofs.Math.Option.{Option, none, some}
use Rattle.std.proofs.Math.Path.{refl, sym, ap}
use Rattle.std.proofs.Common.{◌∙◌, subst, ne_eqb}
use Rattle.definition.specs.Block.{stream_of}
use Rattle.definition.specs.Deciding.{Decision, Place, counted, decide, decide_final, decide_rest, deciding, equal_test, out_test, out_tests, places_of, reads_of, treated}
use Rattle.definition.specs.Field.{Element, Field}
use Rattle.definition.specs.Layout.{layout, read_transcript}
use Rattle.definition.specs.Lists.{different, first_true, range}
use Rattle.definition.specs.Polynomial.{clash}
use Rattle.definition.specs.Reading.{blocks_test, body_tests, check_test, fill_test, length_test, range_test, reading, sheet_test, stream_tests}
use Rattle.definition.specs.Sheet.{Edition, Sheet, first_level, sheet_length, sheet_of, shift_count}
use Rattle.definition.specs.Transcript
use Rattle.definition.specs.Verdict.{Outcome, Verdict, ◌then◌, accepted, refuse_at, refused, then_verdict}
use Rattle.definition.specs.Verify.{verify_in}
use Rattle.list_laws.specs.All.{All, all_places, all_take}
use Rattle.list_laws.specs.First.{FirstTrue, first_true_lem}
use Rattle.layouts.specs.Levels.{level_of, rounds_of, sheet_field, sheet_root, total}
use Rattle.layouts.specs.LawfulSheets.{Paired}
use Rattle.completeness.proofs.Answers.{Refuses, at_refuses, if_refuses, refuses_sheet, then_refuses}
use Rattle.completeness.specs.DecidedByNumber.{clashes, decide_rounds, decided, final_tests, rest_final, rest_round, rest_after}
use Rattle.completeness.specs.Faults.{Part, PartDue, finals, fold, function_in, pairs_in, part_element, part_length, part_limit, part_word, part_words, reads_before, reads_with, sheet_in, shifts}
use Rattle.completeness.specs.Numbered.{level_reads}
use Rattle.completeness.specs.PairsByNumber.{part_length_lem, part_word_lem}
use Rattle.completeness.proofs.Places.{same_places}
use Rattle.completeness.proofs.ReadsCounted.{level_reads_lem, level_tables, shift_points}
use Rattle.completeness.specs.Ready.{ready_sized}
use Rattle.completeness.proofs.SameVerdict.{Ordered, ordered}
use Rattle.completeness.proofs.TwoSteps.{reading_accepted_exactly}

-- A stream whose indices are below the numbers of their shift points, of which each level has some.
pub record Indexed (ed : Edition) (h : Sheet) (w : List ℕ) : Type 0 where
  pub some_points : (i : ℕ) → i ≤ rounds_of h → 0 < shift_count (level_of h i)
  pub shifts_below : (i : ℕ) → i < rounds_of h → All (λ j. j < shift_count (level_of h i)) (part_words ed h w (shifts i))
  pub finals_below : All (λ j. j < shift_count (level_of h (rounds_of h))) (part_words ed h w finals)

module _ (ed : Edition) (h : Sheet) (w : List ℕ) (indexed : Indexed ed h w) where
  abbrev F : Field (Element h.spelling)
  F = sheet_field h

  abbrev ω : Element h.spelling
  ω = sheet_root h

  abbrev M : ℕ
  M = rounds_of h

  -- the reads of the shift indices of m rounds from round i + 1 on
  abbrev shift_reads : ℕ → ℕ → ℕ
  shift_reads i m = total (map (λ j. level_reads h j (part_words ed h w (shifts j))) (range i m))

  reads_next_round : (i m : ℕ) → shift_reads i (suc m) ≡ level_reads h i (part_words ed h w (shifts i)) + shift_reads (suc i) m
  unfolding total range
  reads_next_round i m = refl

  reads_one_round : (i : ℕ) → level_reads h i (part_words ed h w (shifts i)) ≡ shift_reads i 1
  unfolding total range
  reads_one_round i = omega arith

  -- the reads from round i + 1 on, by the round that clashes and the final coin that fails
  reads_from : ℕ → ℕ → Option ℕ → Option ℕ → ℕ
  reads_from i m none f = shift_reads i m + level_reads h M (treated (part_words ed h w finals) f)
  reads_from i m (some q) f = shift_reads i (q - i)

  one_round_more : (i m : ℕ) (bs : List Bool) (c f : Option ℕ) → FirstTrue (suc (suc i)) bs c → level_reads h i (part_words ed h w (shifts i)) + reads_from (suc i) m c f ≡ reads_from i (suc m) c f
  unfolding reads_from
  one_round_more i m bs none f g = omega (arith, reads_next_round i m)
  one_round_more i m bs (some q) f g = sym (reads_next_round i (q - suc i)) ∙ ap (shift_reads i) (let e : suc (q - suc i) ≡ q - i = omega (arith, g.1) in e)

  -- indices of level i, where the tables used so far have lower numbers
  indices_read : (i : ℕ) (before : List Place) (js : List ℕ) → i ≤ M → All (λ p. p.table < i) before → All (λ j. j < shift_count (level_of h i)) js →
      reads_of (before ++ places_of (level_of h i) (function_in ed h w i).places js) ≡ reads_of before + level_reads h i js
  indices_read i before js l lower below =
      ap (λ (ps : List Place). reads_of (before ++ ps)) (same_places ed h w i js) ∙ level_reads_lem h i before js lower (indexed.some_points i l) below

  treated_below : (f : Option ℕ) → All (λ j. j < shift_count (level_of h M)) (treated (part_words ed h w finals) f)
  unfolding treated
  treated_below none = indexed.finals_below
  treated_below (some q) = all_take _ (suc q) (part_words ed h w finals) indexed.finals_below

  rest_reads : (m i : ℕ) (before : List Place) → i + m ≡ M → All (λ p. p.table < i) before →
      reads_of (decide_rest F ω (level_of h i) (function_in ed h w i) (part_element ed h w (fold i) 0) before (rest_after ed h w i m)).used
      ≡ reads_of before + reads_from i m (first_true (suc i) (clashes ed h w i m)) (first_true 0 (final_tests ed h w))
  unfolding decide_rest decide_final range first_true function_in pairs_in reads_from total
  rest_reads zero i before e lower =
      let q : i ≡ M = omega arith in
      let f = first_true 0 (final_tests ed h w) in
      ap (λ (j : ℕ). reads_of (decide_rest F ω (level_of h j) (function_in ed h w j) (part_element ed h w (fold j) 0) before (rest_after ed h w j 0)).used) q
      ∙ ap (λ (r : Transcript.Rest (Element h.spelling)). reads_of (decide_rest F ω (level_of h M) (function_in ed h w M) (part_element ed h w (fold M) 0) before r).used) (rest_final ed h w)
      ∙ indices_read M before (treated (part_words ed h w finals) f) (omega arith) (subst (λ (j : ℕ). All (λ p. p.table < j) before) q lower) (treated_below f) ∙ omega arith
  rest_reads (suc m) i before e lower =
      let now = before ++ places_of (level_of h i) (function_in ed h w i).places (part_words ed h w (shifts i)) in
      ap (λ (r : Transcript.Rest (Element h.spelling)). reads_of (decide_rest F ω (level_of h i) (function_in ed h w i) (part_element ed h w (fold i) 0) before r).used) (rest_round ed h w i m)
      ∙ go (decide_rest F ω (level_of h (suc i)) (function_in ed h w (suc i)) (part_element ed h w (fold (suc i)) 0) now (rest_after ed h w (suc i) m)) (clashes ed h w (suc i) m) (clash F (pairs_in ed h w i))
      (rest_reads m (suc i) now (omega arith) higher)
    where
      f : Option ℕ
      f = first_true 0 (final_tests ed h w)

      here : List Place
      here = before ++ places_of (level_of h i) (function_in ed h w i).places (part_words ed h w (shifts i))

      higher : All (λ p. p.table < suc i) here
      higher =
          subst (λ (ps : List Place). All (λ p. p.table < suc i) (before ++ ps)) (sym (same_places ed h w i (part_words ed h w (shifts i))))
          (level_tables h i before (part_words ed h w (shifts i)) lower)

      here_read : reads_of here ≡ reads_of before + level_reads h i (part_words ed h w (shifts i))
      here_read = indices_read i before (part_words ed h w (shifts i)) (omega arith) lower (indexed.shifts_below i (omega arith))

      go : (d : Decision) (bs : List Bool) (c : Bool) → reads_of d.used ≡ reads_of here + reads_from (suc i) m (first_true (suc (suc i)) bs) f →
          reads_of (cond c (record { outcome = refused 8 (suc i); used = here }) d).used ≡ reads_of before + reads_from i (suc m) (first_true (suc i) (c ∷ bs)) f
      go d bs true g = here_read ∙ ap (λ (n : ℕ). reads_of before + n) (reads_one_round i ∙ ap (shift_reads i) (let b : 1 ≡ suc i - i = omega arith in b))
      go d bs false g = g ∙ omega (arith, here_read, one_round_more i m bs (first_true (suc (suc i)) bs) f (first_true_lem (suc (suc i)) bs))

  -- by the outcome
  by_outcome : (c f : Option ℕ) → reads_from 0 M c f ≡ reads_with ed h w (refuse_at 8 c then refuse_at 9 f)
  unfolding reads_from reads_with reads_before refuse_at ◌then◌ treated
  by_outcome none none = refl
  by_outcome none (some j) = refl
  by_outcome (some q) f = ap (λ (n : ℕ). shift_reads 0 n) (let e : q - 0 ≡ q = omega arith in e)

  decided_reads : Paired h → (d : Decision) → d ≡ decide F ω (first_level h) (read_transcript h.spelling h (drop (sheet_length ed) w)) → (counted d).reads ≡ reads_with ed h w (counted d).outcome
  unfolding counted reads_of different
  decided_reads long d e =
      let c = first_true 1 (clashes ed h w 0 M) in
      let f = first_true 0 (final_tests ed h w) in
      ap (λ (x : Decision). reads_of x.used) (e ∙ decide_rounds ed h w long) ∙ rest_reads M 0 [] (omega arith) tt
      ∙ (let z : 0 + reads_from 0 M c f ≡ reads_from 0 M c f = omega arith in z)
      ∙ by_outcome c f ∙ sym (ap (reads_with ed h w) (ap (λ (x : Decision). x.outcome) e ∙ decided ed h w long))

-- the indices of a file that passes reading
indexed : (ed : Edition) (file : List ℕ) → reading ed file ≡ accepted → Indexed ed (sheet_in ed file) (stream_of file)
unfolding part_limit
indexed ed file passed = record {
  some_points = λ i l. shift_points _ (level_of h i) (ready_sized ed (stream_of file) (omega (arith, o.full, o.kinds)) o.sheet i l);
  shifts_below = λ i l. below (shifts i) l;
  finals_below = below finals tt;
}
  where
    h : Sheet
    h = sheet_in ed file

    o : Ordered ed (stream_of file)
    o = ordered ed file passed

    word_below : (x : Part) → PartDue h x → (j : ℕ) → j < part_length h x → part_word ed h (stream_of file) x j < part_limit h x
    word_below x d j l = go (dec_lt (part_word ed h (stream_of file) x j) (part_limit h x))
      where
        go : Dec (part_word ed h (stream_of file) x j < part_limit h x) → part_word ed h (stream_of file) x j < part_limit h x
        go (yes u) = u
        go (no u) = absurd ((reading_accepted_exactly ed file).0 passed 5 _ (omega arith) (x, d, (j, l, refl, omega arith)))

    below : (x : Part) → PartDue h x → All (λ j. j < part_limit h x) (part_words ed h (stream_of file) x)
    below x d = all_places (λ j. j < part_limit h x) (part_words ed h (stream_of file) x) 0 (λ j l.
        let u : j < part_length h x = omega (arith, l, part_length_lem ed h (stream_of file) o.full x d) in
        subst (λ (y : ℕ). y < part_limit h x) (sym (part_word_lem ed h (stream_of file) o.full x j u)) (word_below x d j u))

-- a refusal before deciding has no reads
abbrev Unread : ℕ → ℕ → Type 0
Unread n q = (n ≡ 8 → ⊥) × (n ≡ 9 → ⊥)

small : (n q : ℕ) → n ≤ 7 → Unread n q
small n q l = (λ e. omega arith, λ e. omega arith)

no_reads : (ed : Edition) (h : Sheet) (w : List ℕ) (n q : ℕ) → Unread n q → 0 ≡ reads_with ed h w (refused n q)
unfolding reads_with
no_reads ed h w n q l = sym (λ t. cond (ne_eqb n 8 l.0 t) (reads_before ed h w q)
    (cond (ne_eqb n 9 l.1 t) (reads_before ed h w (rounds_of h) + level_reads h (rounds_of h) (take (suc q) (part_words ed h w finals))) 0))

reading_refuses : (ed : Edition) (file : List ℕ) → Refuses Unread (reading ed file)
unfolding reading stream_tests body_tests length_test check_test blocks_test range_test fill_test
reading_refuses ed file =
    let Q = Unread in
    let w = stream_of file in
    then_refuses Q (length_test file) _ (if_refuses Q 1 0 _ (small 1 0 (omega arith)))
    (then_refuses Q (check_test file) _ (at_refuses Q 2 0 _ (λ j l. small 2 j (omega arith)))
    (then_refuses Q (sheet_test ed w) _ (refuses_sheet Q ed w (λ i l. small 3 i (omega arith)))
    (then_refuses Q (blocks_test (sheet_length ed + length (layout (sheet_of ed w))) (length file / 512)) _ (if_refuses Q 4 _ _ (small 4 0 (omega arith)))
    (then_refuses Q (range_test (sheet_of ed w) (sheet_length ed) (layout (sheet_of ed w)) w) _ (at_refuses Q 5 (sheet_length ed) _ (λ j l. small 5 j (omega arith))) (at_refuses Q 6 _ _ (λ j l. small 6 j (omega arith)))))))

then_reads : (ed : Edition) (h : Sheet) (w : List ℕ) (o : Outcome) (v : Verdict) → Refuses Unread o → (o ≡ accepted → v.reads ≡ reads_with ed h w v.outcome) →
    (then_verdict o v).reads ≡ reads_with ed h w (then_verdict o v).outcome
unfolding then_verdict
then_reads ed h w accepted v g e = e refl
then_reads ed h w (refused n q) v g e = no_reads ed h w n q g

-- The reads of verify go with its outcome.
pub verify_reads : (ed : Edition) (file : List ℕ) → (verify_in ed file).reads ≡ reads_with ed (sheet_in ed file) (stream_of file) (verify_in ed file).outcome
unfolding verify_in deciding out_tests out_test equal_test
verify_reads ed file =
    let w = stream_of file in
    let h = sheet_in ed file in
    then_reads ed h w (reading ed file) (deciding ed w) (reading_refuses ed file) (λ passed.
    then_reads ed h w (out_tests h (sheet_length ed) (layout h) w) _
    (then_refuses Unread (out_test h (sheet_length ed) (layout h) w) _ (at_refuses Unread 7 (sheet_length ed) _ (λ j l. small 7 j (omega arith)))
    (at_refuses Unread 14 (sheet_length ed) _ (λ j l. (λ e. omega (arith, e), λ e. omega (arith, e))))) (λ outside. decided_reads ed h w (indexed ed file passed) (ordered ed file passed).long _ refl))
