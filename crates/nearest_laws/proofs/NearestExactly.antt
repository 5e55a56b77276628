-- The nearest polynomial, exactly: when an order passes all tests but 19, what is then found, that it is the only one, and when there is none.
use Prim.Native.Nat.{ℕ, zero, suc, ◌+◌, ◌-◌, ◌/◌, ◌^◌, ◌≤◌, ◌<◌}
use Rattle.std.proofs.Math.Nat as N
use native.Mathlib.Omega.{arith}
use Rattle.std.specs.Prelude.{Bool, true, ◌↔◌, get_or, replicate}
use Rattle.std.proofs.Math.Bool.{false, not}
use mathlib.Core.List.{List, [], ◌∷◌, ◌++◌, zip_with}
use Rattle.std.proofs.Math.Option.{Option, none, some}
use Rattle.std.proofs.Math.Path.{◌≡◌, refl, ap}
use Rattle.std.proofs.Common.{sym, ◌∙◌, subst}
use Rattle.std.proofs.Math.Dec.{leb}
use Rattle.std.proofs.Math.ListN.{length, drop, length-append, length-replicate}
use Rattle.std.proofs.lemmas.List.{get_or-replicate}
use borrow.Author.Tests.{eq-eqb, le-ltb, leb-false, lt-leb, ltb-false}
use Rattle.definition.specs.Domain.{domain, point}
use Rattle.definition.specs.Field.{Element, Field, Spelling, elements_in, words_of}
use Rattle.definition.specs.Layout.{Kind, limit, message}
use Rattle.nearest_definition.specs.Nearest.{all_elements, all_true, differing_points, entries_test, entry_range_test, found_test, near, nearest, nearest_size, nearest_tests, nearest_to, nearest_words, wrong_points}
use Rattle.definition.specs.Polynomial.{evaluate}
use Rattle.definition.specs.Prove.{Result, done, finish, output_test, refusal, sheet_length_test}
use Rattle.definition.specs.Prover.{table_of}
use Rattle.definition.specs.Reading.{out_of_range, sheet_test}
use Rattle.definition.specs.Sheet.{Level, Sheet, edition1, first_level, sheet_length, sheet_of}
use Rattle.definition.specs.Verdict.{Outcome, ◌then◌, accepted, refused}
use Rattle.list_laws.specs.All.{All, all_map, all_places, at_place}
use Rattle.decoding.specs.AllTrue.{in_true, rising, rising_same, true_in}
use Rattle.list_laws.specs.Booleans.{some≢none}
use Rattle.list_laws.specs.Lists.{zip_short}
use Rattle.decoding.specs.Searches.{In}
use Rattle.algebra.specs.Coefficients.{Elements}
use Rattle.algebra.specs.Different.{Apart}
use Rattle.algebra.specs.FieldIn.{Below, reduced_in, zero_in}
use Rattle.decoding.proofs.Exactly.{few_near, near_few, only_one, some_exactly, some_near}
use Rattle.layouts.specs.Levels.{element_at, level_of, sheet_field, sheet_root, words_for, zero_of}
use Rattle.layouts.proofs.LevelsByNumber.{level_first}
use Rattle.layouts.proofs.PlainSheet.{sheet_plain}
use Rattle.layouts.proofs.RulesByWord.{sheet_exactly}
use Rattle.layouts.specs.Spellings.{read_at_lem, read_length, words_length}
use Rattle.layouts.specs.Tests.{all_false, at_none, equal_passes, if_false, if_passes, none_true, then_passes}
use Rattle.completeness.proofs.Allowed.{sheet_long}
use Rattle.completeness.proofs.Answers.{Refuses, at_refuses, finish_refusal, if_refuses, refuses_sheet, then_refuses}
use Rattle.completeness.specs.DecidingAccepts.{table_at, table_length}
use Rattle.completeness.proofs.Domains
use Rattle.completeness.proofs.ProveAccepted.{finish_done, finish_failed}
use Rattle.completeness.specs.Ready.{Ready, ready, ready_sized}
use Rattle.completeness.specs.TestsByNumber.{zip_at, zip_length}
use Rattle.nearest_laws.specs.WrongPoints
use Rattle.nearest_laws.specs.WrongPoints.{BelowBound, Near, NearestRefusal, Searchable, WrongAt, most_written}
use Rattle.decoding.specs.AllElements.{all_below, all_in}

-- ---- the tests but 19

module _ (w table output : List ℕ) where
  abbrev h : Sheet
  h = sheet_of edition1 w

  abbrev tests : Outcome
  tests = sheet_length_test edition1 w then sheet_test edition1 w then nearest_tests (sheet_of edition1 w) table output

  abbrev kinds : List Kind
  kinds = replicate (words_for (sheet_of edition1 w) (sheet_of edition1 w).size) message

  entry_at : (j : ℕ) → length table ≡ words_for (sheet_of edition1 w) (sheet_of edition1 w).size → j < length table → get_or (zip_with (out_of_range (sheet_of edition1 w)) kinds table) j false ≡ leb (sheet_of edition1 w).prime (get_or table j 0)
  unfolding out_of_range limit
  entry_at j n l =
      zip_at (out_of_range (sheet_of edition1 w)) message 0 kinds table j (omega (arith, length-replicate (words_for (sheet_of edition1 w) (sheet_of edition1 w).size) message)) (omega (arith, length-replicate (words_for (sheet_of edition1 w) (sheet_of edition1 w).size) message))
      ∙ ap (λ (k : Kind). leb (limit (sheet_of edition1 w).prime k) (get_or table j 0)) (get_or-replicate (words_for (sheet_of edition1 w) (sheet_of edition1 w).size) j message message (omega arith))

  tested_length : length table ≡ words_for (sheet_of edition1 w) (sheet_of edition1 w).size → length (zip_with (out_of_range (sheet_of edition1 w)) kinds table) ≡ length table
  tested_length n = zip_length (out_of_range (sheet_of edition1 w)) message 0 kinds table (omega (arith, length-replicate (words_for (sheet_of edition1 w) (sheet_of edition1 w).size) message)) ∙ length-replicate (words_for (sheet_of edition1 w) (sheet_of edition1 w).size) message ∙ sym n

  tests_pass : tests ≡ accepted → Searchable w table output
  unfolding nearest_tests entries_test entry_range_test output_test nearest_size sheet_of
  tests_pass e =
      let a = then_passes (sheet_length_test edition1 w) _ e in
      let b = then_passes (sheet_test edition1 w) _ a.1 in
      let c = then_passes (entries_test (sheet_of edition1 w) table) _ b.1 in
      let d = then_passes (entry_range_test (sheet_of edition1 w) table) _ c.1 in
      let n : length table ≡ words_for (sheet_of edition1 w) (get_or w 1 0) = equal_passes 10 1 (length table) (words_for (sheet_of edition1 w) (get_or w 1 0)) c.0 in
      let most = most_written w in
      let clear = all_false 5 0 (zip_with (out_of_range (sheet_of edition1 w)) kinds table) d.0 in
      record {
        words = sheet_long edition1 w a.0;
        rules = (sheet_exactly edition1 w).0 b.0;
        count = n;
        range = λ j l. leb-false _ _ (sym (entry_at j n l) ∙ at_place (λ (t : Bool). t ≡ false) (zip_with (out_of_range (sheet_of edition1 w)) kinds table) false clear j (omega (arith, tested_length n)));
        room = ltb-false (length output) most (if_passes 11 most _ d.1);
      }

  pass_tests : Searchable w table output → tests ≡ accepted
  unfolding nearest_tests sheet_length_test entries_test entry_range_test output_test nearest_size sheet_of ◌then◌
  pass_tests ok =
      let bs = zip_with (out_of_range (sheet_of edition1 w)) kinds table in
      let most = most_written w in
      let a : sheet_length_test edition1 w ≡ accepted = if_false 10 0 _ (ap not (eq-eqb (length w) 12 ok.words)) in
      let b : sheet_test edition1 w ≡ accepted = (sheet_exactly edition1 w).1 ok.rules in
      let c : entries_test (sheet_of edition1 w) table ≡ accepted = if_false 10 1 _ (ap not (eq-eqb (length table) (words_for (sheet_of edition1 w) (get_or w 1 0)) ok.count)) in
      let d : entry_range_test (sheet_of edition1 w) table ≡ accepted = at_none 5 _ (none_true 0 bs (all_places (λ (t : Bool). t ≡ false) bs false
      (λ j l. let u : j < length table = omega (arith, tested_length ok.count) in entry_at j ok.count u ∙ lt-leb _ _ (ok.range j u)))) in
      let g : output_test most most (length output) ≡ accepted = if_false 11 _ _ (le-ltb (length output) most ok.room) in
      (λ i. a i then b i then c i then d i then g i)

  then_last : (a b c d : Outcome) → (a then b then c then d) ≡ ((a then b then c) then d)
  unfolding ◌then◌
  then_last accepted accepted c d = refl
  then_last accepted (refused n p) c d = refl
  then_last (refused n p) b c d = refl

  abbrev words : List ℕ
  words = nearest_words (sheet_of edition1 w) table (nearest_to (sheet_of edition1 w) table)

  result_is : nearest w table output ≡ finish (tests then found_test (nearest_to (sheet_of edition1 w) table)) (length words) words output
  unfolding nearest
  result_is = ap (λ (o : Outcome). finish o (length words) words output)
      (then_last (sheet_length_test edition1 w) (sheet_test edition1 w) (nearest_tests h table output) (found_test (nearest_to h table)))

  -- ---- what is found

  module _ (ok : Searchable w table output) where
    passed : sheet_test edition1 w ≡ accepted
    passed = (sheet_exactly edition1 w).1 ok.rules

    long : sheet_length edition1 ≤ length w
    long = omega (arith, ok.words)

    abbrev q : Ready (sheet_of edition1 w)
    q = ready edition1 w long passed

    abbrev σ : Spelling
    σ = (sheet_of edition1 w).spelling

    -- polynomials, and lists of elements
    abbrev Poly : Type 0
    Poly = List (Element (sheet_of edition1 w).spelling)

    abbrev F : Field (Element (sheet_of edition1 w).spelling)
    F = sheet_field (sheet_of edition1 w)

    abbrev ω : Element (sheet_of edition1 w).spelling
    ω = sheet_root (sheet_of edition1 w)

    abbrev l : Level
    l = first_level (sheet_of edition1 w)

    abbrev p : ℕ
    p = (sheet_of edition1 w).prime

    level_is : first_level (sheet_of edition1 w) ≡ level_of (sheet_of edition1 w) 0
    level_is = level_first (sheet_of edition1 w)

    size_is : (first_level (sheet_of edition1 w)).size ≡ (sheet_of edition1 w).size
    unfolding first_level
    size_is = refl

    points_apart : Apart F (domain F ω l)
    points_apart = subst (λ (b : Level). Apart F (domain F ω b)) (sym level_is)
        (Domains.domain_apart F q.laws ω q.signs q.e q.root (level_of h 0) (ready_sized edition1 w long passed 0 (omega arith)))

    -- the entries
    abbrev entries : List (Element (sheet_of edition1 w).spelling)
    entries = elements_in (sheet_of edition1 w).spelling table

    table_long : length (elements_in (sheet_of edition1 w).spelling table) ≡ l.size
    unfolding sheet_of first_level
    table_long = read_length (sheet_of edition1 w).spelling (get_or w 1 0) table ok.count

    half_fits : (a b d n : ℕ) → n ≡ 2 ^ suc a → d ≡ 2 ^ b → 1 < d → d < n → d + (n - d) / 2 + (n - d) / 2 ≤ n
    half_fits a b d n en ed t f = omega arith

    fits : h.degree + (l.size - h.degree) / 2 + (l.size - h.degree) / 2 ≤ l.size
    unfolding sheet_of first_level
    fits = let z = (sheet_plain edition1 w passed).plain in omega (arith, z.degree_range)

    -- ---- elements

    elements : Elements F q.laws (all_elements σ p)
    elements = all_map (all_elements σ p) (all_below σ p) (λ c u. reduced_in σ p q.laws c u)

    below_in : (f : Poly) → BelowBound h f → All (λ c. In c (all_elements σ p)) f
    below_in f b = all_places (λ c. In c (all_elements σ p)) f (zero_of h) (λ j u. all_in σ p (get_or f j (zero_of h)) (b.range j u))

    below_elements : (f : Poly) → BelowBound h f → Elements F q.laws f
    below_elements f b = all_places (λ c. q.laws.reduce c ≡ c) f (zero_of h) (λ j u. reduced_in σ p q.laws (get_or f j (zero_of h)) (b.range j u))

    -- ---- the points where a polynomial differs

    abbrev tested : List (Element (sheet_of edition1 w).spelling) → List Bool
    tested f = zip_with (λ x y. not (F.equal x y)) (table_of F ω (first_level (sheet_of edition1 w)) f) entries

    numbers : (f : Poly) → wrong_points (sheet_of edition1 w) table f ≡ all_true 0 (tested f)
    unfolding wrong_points differing_points
    numbers f = refl

    test_at : (f : Poly) (j : ℕ) → j < h.size → get_or (tested f) j false
        ≡ not (F.equal (evaluate F f (point F ω (level_of (sheet_of edition1 w) 0) j)) (element_at σ table (words_for (sheet_of edition1 w) j)))
    test_at f j u =
        zip_at (λ x y. not (F.equal x y)) F.𝟘 F.𝟘 (table_of F ω l f) entries j (omega (arith, table_length F ω l f, size_is)) (omega (arith, table_length F ω l f, table_long))
        ∙ (λ i. not (F.equal ((table_at F ω l f j (omega (arith, size_is)) ∙ ap (λ (b : Level). evaluate F f (point F ω b j)) level_is) i)
        ((ap (get_or entries j) (zero_in σ p) ∙ read_at_lem σ table j) i)))

    inside : (bs : List Bool) (j : ℕ) → get_or bs j false ≡ true → j < length bs
    inside [] j e = let z : ◌≡◌ {A = ℕ} 0 1 = cc in absurd (omega arith)
    inside (b ∷ bs) zero e = omega arith
    inside (b ∷ bs) (suc j) e = omega (arith, inside bs j e)

    -- different elements, and elements that are not equal
    differ_of : (a b : Element σ) → not (F.equal a b) ≡ true → a ≡ b → ⊥
    differ_of a b e z =
        let k : F.equal a b ≡ true = subst (λ (c : Element σ). F.equal a c ≡ true) z (q.laws.equal_refl a) in
        let y = sym (ap not k) ∙ e in
        let x : ◌≡◌ {A = ℕ} 0 1 = cc in
        omega arith

    of_differ : (a b : Element σ) → (a ≡ b → ⊥) → not (F.equal a b) ≡ true
    of_differ a b k = go (F.equal a b) refl
      where
        go : (t : Bool) → F.equal a b ≡ t → not t ≡ true
        go true e = absurd (k (q.laws.equal_true a b e))
        go false e = refl

    pub wrong_points_lem : (f : List (Element (sheet_of edition1 w).spelling)) → WrongAt (sheet_of edition1 w) table f (wrong_points (sheet_of edition1 w) table f)
    wrong_points_lem f = subst (WrongAt (sheet_of edition1 w) table f) (sym (numbers f)) (record {
      rising = rising 0 (tested f);
      exactly = λ j. (
        λ m. let r = in_true 0 j (tested f) m in
            let z : j ≡ r.0 = r.1.0 ∙ N.zero-add r.0 in
            let t : get_or (tested f) j false ≡ true = ap (λ (i : ℕ). get_or (tested f) i false) z ∙ r.1.1 in
            let u : j < h.size = omega (arith, inside (tested f) j t, zip_length (λ x y. not (F.equal x y)) F.𝟘 F.𝟘 (table_of F ω l f) entries (omega (arith, table_length F ω l f, table_long)), table_length F ω l f, size_is) in
            (u, differ_of _ _ (sym (test_at f j u) ∙ t)),
        λ k. subst (λ (i : ℕ). In i (all_true 0 (tested f))) (N.zero-add j) (true_in 0 j (tested f) (test_at f j k.0 ∙ of_differ _ _ k.1)),
      );
    })

    pub numbers_only : (f : List (Element (sheet_of edition1 w).spelling)) (ns : List ℕ) → WrongAt (sheet_of edition1 w) table f ns → ns ≡ wrong_points (sheet_of edition1 w) table f
    numbers_only f ns k =
        let m = wrong_points_lem f in
        rising_same 0 0 ns (wrong_points h table f) k.rising m.rising (λ j i. (m.exactly j).1 ((k.exactly j).0 i)) (λ j i. (k.exactly j).1 ((m.exactly j).0 i))

    -- ---- near, in the definition's terms

    near_true : (f : List (Element (sheet_of edition1 w).spelling)) (ns : List ℕ) → Near (sheet_of edition1 w) table f ns → near F ω l h.degree entries f ≡ true
    unfolding wrong_points table_of
    near_true f ns k = few_near F ω l h.degree entries f (omega (arith, k.few, ap length (numbers_only f ns k.wrong), size_is))

    true_near : (f : List (Element (sheet_of edition1 w).spelling)) → BelowBound (sheet_of edition1 w) f → near F ω l h.degree entries f ≡ true → Near (sheet_of edition1 w) table f (wrong_points (sheet_of edition1 w) table f)
    unfolding wrong_points table_of
    true_near f b e = record { below = b; wrong = wrong_points_lem f; few = omega (arith, near_few F ω l h.degree entries f e, size_is) }

    -- ---- some f exactly for the f that is near

    pub found : (f : List (Element (sheet_of edition1 w).spelling)) (ns : List ℕ) → Near (sheet_of edition1 w) table f ns → nearest_to (sheet_of edition1 w) table ≡ some f
    unfolding nearest_to
    found f ns k =
        some_exactly F q.laws ω l h.degree entries points_apart table_long fits (all_elements σ p) elements f k.below.count (below_in f k.below) (below_elements f k.below) (near_true f ns k)

    pub only : (f g : List (Element (sheet_of edition1 w).spelling)) (ns ms : List ℕ) → Near (sheet_of edition1 w) table f ns → Near (sheet_of edition1 w) table g ms → f ≡ g
    only f g ns ms j k =
        only_one F q.laws ω l h.degree entries points_apart table_long fits f g j.below.count (below_elements f j.below) (near_true f ns j)
        k.below.count (below_elements g k.below) (near_true g ms k)

    pub none_is : nearest_to (sheet_of edition1 w) table ≡ none → (f : List (Element (sheet_of edition1 w).spelling)) (ns : List ℕ) → Near (sheet_of edition1 w) table f ns → ⊥
    none_is e f ns k = some≢none f (sym (found f ns k) ∙ e)

    pub some_is : (f : List (Element (sheet_of edition1 w).spelling)) → nearest_to (sheet_of edition1 w) table ≡ some f → Near (sheet_of edition1 w) table f (wrong_points (sheet_of edition1 w) table f)
    unfolding nearest_to
    some_is f e =
        let s = some_near F ω l h.degree entries (all_elements σ p) (Below σ p) (all_below σ p) f e in
        true_near f (record { count = s.0.0; range = λ j u. at_place (Below σ p) f (zero_of h) s.0.1 j u }) s.1

    -- ---- the answers

    searched_is : nearest w table output ≡ finish (found_test (nearest_to (sheet_of edition1 w) table)) (length words) words output
    unfolding ◌then◌
    searched_is = result_is ∙ ap (λ (o : Outcome). finish (o then found_test (nearest_to (sheet_of edition1 w) table)) (length words) words output) (pass_tests ok)

    -- the f that is near is written, with its count and its numbers
    pub written : (f : List (Element (sheet_of edition1 w).spelling)) (ns : List ℕ) → Near (sheet_of edition1 w) table f ns →
        nearest w table output ≡ record { answer = done (words_for (sheet_of edition1 w) (get_or w 2 0) + 1 + length ns); output = (words_of (sheet_of edition1 w).spelling f ++ length ns ∷ ns) ++ drop (words_for (sheet_of edition1 w) (get_or w 2 0) + 1 + length ns) output }
    unfolding nearest_words found_test finish sheet_of
    written f ns k =
        let e = numbers_only f ns k.wrong in
        let m : length (words_of (sheet_of edition1 w).spelling f ++ length ns ∷ ns) ≡ words_for (sheet_of edition1 w) (get_or w 2 0) + 1 + length ns =
        length-append (words_of σ f) (length ns ∷ ns) ∙ omega (arith, words_length σ f, ap (words_for (sheet_of edition1 w)) k.below.count) in
        searched_is
        ∙ ap (λ (o : Option (List (Element (sheet_of edition1 w).spelling))). finish (found_test o) (length (nearest_words h table o)) (nearest_words h table o) output) (found f ns k)
        ∙ ap (λ (xs : List ℕ). record { answer = done (length (words_of (sheet_of edition1 w).spelling f ++ length xs ∷ xs)); output = (words_of (sheet_of edition1 w).spelling f ++ length xs ∷ xs) ++ drop (length (words_of (sheet_of edition1 w).spelling f ++ length xs ∷ xs)) output }) (sym e)
        ∙ (λ i. record { answer = done (m i); output = (words_of (sheet_of edition1 w).spelling f ++ length ns ∷ ns) ++ drop (m i) output })

  -- ---- which answers there are

  never : found_test {A = Element (sheet_of edition1 w).spelling} none ≡ accepted → ⊥
  unfolding found_test
  never e = let z : ◌≡◌ {A = ℕ} 0 1 = cc in omega arith

  -- the tests before 19 refuse with no 19
  other_number : Refuses (λ n q. n ≡ 19 → ⊥) tests
  unfolding nearest_tests sheet_length_test entries_test entry_range_test output_test
  other_number =
      let Q : ℕ → ℕ → Type 0 = λ n q. n ≡ 19 → ⊥ in
      then_refuses Q (sheet_length_test edition1 w) _ (if_refuses Q 10 0 _ (λ e. omega arith))
      (then_refuses Q (sheet_test edition1 w) _ (refuses_sheet Q edition1 w (λ i l e. omega arith))
      (then_refuses Q (entries_test (sheet_of edition1 w) table) _ (if_refuses Q 10 1 _ (λ e. omega arith))
      (then_refuses Q (entry_range_test (sheet_of edition1 w) table) _ (at_refuses Q 5 0 _ (λ j l e. omega arith)) (if_refuses Q 11 _ _ (λ e. omega arith)))))

  refused_19 : (o : Outcome) (x : Option (List (Element (sheet_of edition1 w).spelling))) (count : ℕ) (written : List ℕ) → Refuses (λ n q. n ≡ 19 → ⊥) o → (finish (o then found_test x) count written output).answer ≡ refusal 19 0 → (o ≡ accepted) × (x ≡ none)
  unfolding finish ◌then◌ found_test
  refused_19 accepted none count written h e = (refl, refl)
  refused_19 accepted (some f) count written h e = let z : ◌≡◌ {A = ℕ} 0 1 = cc in absurd (omega arith)
  refused_19 (refused n p) x count written h e = let z : n ≡ 19 = cc in absurd (h z)

  none_answer : (o : Option (List (Element (sheet_of edition1 w).spelling))) → o ≡ none → (count : ℕ) (written : List ℕ) → (finish (found_test o) count written output).answer ≡ refusal 19 0
  unfolding finish found_test
  none_answer none e count written = refl
  none_answer (some f) e count written = absurd (some≢none f e)

  -- 19 EXACTLY IF NO POLYNOMIAL BELOW THE BOUND IS NEAR
  pub refused_exactly : ((nearest w table output).answer ≡ refusal 19 0) ↔ (Searchable w table output × ((f : List (Element (sheet_of edition1 w).spelling)) (ns : List ℕ) → Near (sheet_of edition1 w) table f ns → ⊥))
  refused_exactly = (
    λ e. let r = refused_19 tests (nearest_to (sheet_of edition1 w) table) (length words) words other_number (sym (ap (λ (x : Result). x.answer) result_is) ∙ e) in
        let ok = tests_pass r.0 in
        (ok, none_is ok r.1),
    λ t. ap (λ (x : Result). x.answer) (searched_is t.0) ∙ none_answer (nearest_to (sheet_of edition1 w) table) (nothing t.0 t.1 (nearest_to (sheet_of edition1 w) table) refl) (length words) words,
  )
    where
      nothing : (ok : Searchable w table output) → ((f : List (Element (sheet_of edition1 w).spelling)) (ns : List ℕ) → Near (sheet_of edition1 w) table f ns → ⊥) → (o : Option (List (Element (sheet_of edition1 w).spelling))) → nearest_to (sheet_of edition1 w) table ≡ o → o ≡ none
      nothing ok without none e = refl
      nothing ok without (some f) e = absurd (without f _ (some_is ok f e))

  -- DONE ONLY IF SOME POLYNOMIAL IS NEAR; then it, its count and its numbers are written
  pub done_only : (n : ℕ) → (nearest w table output).answer ≡ done n → Searchable w table output × ((f : List (Element (sheet_of edition1 w).spelling)) × ((ns : List ℕ) × (Near (sheet_of edition1 w) table f ns
      × (nearest w table output ≡ record { answer = done (words_for (sheet_of edition1 w) (get_or w 2 0) + 1 + length ns); output = (words_of (sheet_of edition1 w).spelling f ++ length ns ∷ ns) ++ drop (words_for (sheet_of edition1 w) (get_or w 2 0) + 1 + length ns) output }))))
  done_only n e =
      let r = finish_done (tests then found_test (nearest_to (sheet_of edition1 w) table)) (length words) n words output (sym (ap (λ (x : Result). x.answer) result_is) ∙ e) in
      let t = then_passes tests (found_test (nearest_to (sheet_of edition1 w) table)) r.0 in
      let ok = tests_pass t.0 in
      (ok, some_one (nearest_to (sheet_of edition1 w) table) t.1 ok refl)
    where
      some_one : (o : Option (List (Element (sheet_of edition1 w).spelling))) → found_test o ≡ accepted → (ok : Searchable w table output) → nearest_to (sheet_of edition1 w) table ≡ o → (f : List (Element (sheet_of edition1 w).spelling)) × ((ns : List ℕ) × (Near (sheet_of edition1 w) table f ns
          × (nearest w table output ≡ record { answer = done (words_for (sheet_of edition1 w) (get_or w 2 0) + 1 + length ns); output = (words_of (sheet_of edition1 w).spelling f ++ length ns ∷ ns) ++ drop (words_for (sheet_of edition1 w) (get_or w 2 0) + 1 + length ns) output })))
      some_one none k ok q = absurd (never k)
      some_one (some f) k ok q = let m = some_is ok f q in (f, (_, (m, written ok f _ m)))

  pub refused_same : (n q : ℕ) → (nearest w table output).answer ≡ refusal n q → (nearest w table output).output ≡ output
  unfolding nearest
  refused_same n q e = finish_failed _ _ n q _ output e

  -- a refusal is one of six
  found_refuses : (o : Option (List (Element (sheet_of edition1 w).spelling))) → Refuses (NearestRefusal w table) (found_test o)
  unfolding found_test
  found_refuses none = WrongPoints.NearestRefusal.nothing_near
  found_refuses (some f) = tt

  pub refusals : (n q : ℕ) → (nearest w table output).answer ≡ refusal n q → NearestRefusal w table n q
  unfolding nearest nearest_tests sheet_length_test entries_test entry_range_test output_test nearest_size sheet_of
  refusals n q e =
      let Q = NearestRefusal w table in
      finish_refusal Q _ _ n q _ output
      (then_refuses Q (sheet_length_test edition1 w) _ (if_refuses Q 10 0 _ WrongPoints.NearestRefusal.sheet_length_case)
      (then_refuses Q (sheet_test edition1 w) _ (refuses_sheet Q edition1 w WrongPoints.NearestRefusal.rule_broken)
      (then_refuses Q (nearest_tests (sheet_of edition1 w) table output) _
      (then_refuses Q (entries_test (sheet_of edition1 w) table) _ (if_refuses Q 10 1 _ WrongPoints.NearestRefusal.entry_count)
      (then_refuses Q (entry_range_test (sheet_of edition1 w) table) _
      (at_refuses Q 5 0 _ (λ j l. WrongPoints.NearestRefusal.word_over (0 + j) (omega (arith, zip_short (out_of_range (sheet_of edition1 w)) (replicate (words_for (sheet_of edition1 w) (sheet_of edition1 w).size) message) table))))
      (if_refuses Q 11 _ _ WrongPoints.NearestRefusal.output_short)))
      (found_refuses (nearest_to (sheet_of edition1 w) table))))) e
