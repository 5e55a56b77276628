-- The places that deciding lists are those that Faults calls used: a property of all that are listed is one of every place that is used.
use Prim.Native.Nat.{ℕ, zero, suc, ◌+◌, ◌*◌, ◌≤◌, ◌<◌}
use Rattle.std.proofs.Math.Decide.{dec_lt}
use native.Mathlib.Omega.{arith}
use Rattle.std.proofs.Math.Bool.{Bool, true, false, not}
use Rattle.std.specs.Prelude.{cond, ◌≡◌, get_or, take, drop}
use Rattle.std.proofs.Common.{true≢false, sym, ◌∙◌, length-take, get_or-take}
use mathlib.Core.List.{List, [], ◌∷◌, ◌++◌, flat_map, map}
use Rattle.std.proofs.Math.Option.{Option, none, some}
use Rattle.std.proofs.Math.Path.{refl, ap, subst}
use Rattle.std.proofs.Math.ListN.{length, length-map}
use Rattle.definition.specs.Block.{stream_of}
use Rattle.definition.specs.Deciding.{Decision, Function, Place, answers, coin_places, counted, decide, decide_final, decide_rest, deciding, differences, equal_test, next_function, out_test, out_tests, own_place, places_of, reads_of, treated}
use Rattle.definition.specs.Domain.{fold_at, root_numbers, shift_point}
use Rattle.definition.specs.Field.{Element, Field, number_in}
use Rattle.definition.specs.Layout.{layout, read_transcript}
use Rattle.definition.specs.Lists.{different, first_true, range}
use Rattle.definition.specs.Polynomial.{clash, distinct, evaluate}
use Rattle.definition.specs.Reading.{reading}
use Rattle.definition.specs.Sheet.{Edition, Level, Sheet, first_level, sheet_length, shift_count}
use Rattle.definition.specs.Transcript
use Rattle.definition.specs.Transcript.{Rest, final, round}
use Rattle.definition.specs.Verdict.{Outcome, Verdict, ◌then◌, accepted, refuse_at, refused, then_verdict}
use Rattle.definition.specs.Verify.{verify_in}
use Rattle.algebra.specs.Laws.{FieldLaws}
use Rattle.list_laws.specs.All.{All, all_at, all_in_map, all_left, all_right, at_place}
use Rattle.list_laws.specs.Booleans.{is_false}
use Rattle.list_laws.specs.Lists.{get_d_map}
use Rattle.list_laws.specs.First.{FirstTrue, first_true_lem}
use Rattle.layouts.specs.Levels.{level_of, rounds_of, sheet_field, sheet_root}
use Rattle.completeness.specs.DecidedByNumber.{decide_rounds, final_tests, rest_final, rest_round, rest_after}
use Rattle.completeness.proofs.Dependence.{own_places}
use Rattle.completeness.specs.Faults as faults
use Rattle.completeness.specs.Faults.{ClashFault, FinalFault, OutsPass, SameOutside, Used, finals, fold, function_in, pairs_in, part_element, part_elements, part_length, part_words, sheet_in, shifts, words}
use Rattle.completeness.proofs.AcceptedExactly.{refused_exactly}
use Rattle.completeness.specs.Numbered as numbered
use Rattle.completeness.specs.PairsByNumber.{part_length_lem, part_word_lem}
use Rattle.completeness.specs.Ready.{sheet_laws}
use Rattle.completeness.proofs.SameVerdict
use Rattle.completeness.proofs.SameVerdict.{ordered}
use Rattle.completeness.specs.TestsByNumber.{clash_found, element_differ}
use Rattle.dependence.specs.Changes.{SameAt, places_after, places_used}

-- a property of all of several lists joined
all_in_flat : {A B : Type 0} (P : B → Type 0) (f : A → List B) (xs : List A) → All P (flat_map f xs) → All (λ x. All P (f x)) xs
unfolding flat_map
all_in_flat P f [] h = tt
all_in_flat P f (x ∷ xs) h = (all_left P (f x) (flat_map f xs) h, all_in_flat P f xs (all_right P (f x) (flat_map f xs) h))

-- what is used so far stays listed
module _ {A : Type 0} (F : Field A) (ω : A) (P : Place → Type 0) where
  used_before : (rest : Rest A) (b : Level) (f : Function A) (r : A) (used : List Place) → All P (decide_rest F ω b f r used rest).used → All P used
  unfolding decide_rest decide_final
  used_before (final cs js) b f r used k = all_left P used _ k
  used_before (round ρ rest) b f r used k =
      all_left P used (places_of b f.places ρ.coins.shifts) (go (clash F (answers F ω b f.value r ρ)) _ k
      (used_before rest ρ.coins.level (next_function F ω (distinct F (answers F ω b f.value r ρ)) ρ) ρ.coins.fold (used ++ places_of b f.places ρ.coins.shifts)))
    where
      go : (c : Bool) (d : Decision) → All P (cond c (record { outcome = refused 8 ρ.coins.level.number; used = used ++ places_of b f.places ρ.coins.shifts }) d).used →
          (All P d.used → All P (used ++ places_of b f.places ρ.coins.shifts)) → All P (used ++ places_of b f.places ρ.coins.shifts)
      go true d h e = h
      go false d h e = e h

-- the places of coin a's root m, among those of all coins
coin_listed : (P : Place → Type 0) (b : Level) (js : List ℕ) → All P (places_of b (own_place b) js) → (a m : ℕ) → a < length js → m < b.fold →
    P (record { table = b.number; number = get_or js a 0 + m * shift_count b })
unfolding places_of coin_places own_place root_numbers
coin_listed P b js k a m l u =
    let c = at_place _ js 0 (all_in_flat P (coin_places b (own_place b)) js k) a l in
    let r = all_in_map (λ n. All P (own_place b n)) (λ n. get_or js a 0 + n * shift_count b) (range 0 b.fold) (all_in_flat P (own_place b) (map (λ n. get_or js a 0 + n * shift_count b) (range 0 b.fold)) c) in
    subst (λ (n : ℕ). P (record { table = b.number; number = get_or js a 0 + n * shift_count b })) (let e : 0 + m ≡ m = omega arith in e) (all_at _ 0 b.fold r m u).0

module _ (ed : Edition) (h : Sheet) (L : FieldLaws (sheet_field h)) (v : List ℕ) (full : faults.due_of ed h ≤ length v) (P : Place → Type 0) where
  abbrev F : Field (Element h.spelling)
  F = sheet_field h

  abbrev ω : Element h.spelling
  ω = sheet_root h

  abbrev M : ℕ
  M = rounds_of h

  abbrev from : ℕ → List Place → ℕ → Decision
  from i used m = decide_rest F ω (level_of h i) (function_in ed h v i) (part_element ed h v (fold i) 0) used (rest_after ed h v i m)

  -- no clash, where there is no fault
  clear_round : (i : ℕ) → i < M → (ClashFault ed h v (suc i) → ⊥) → clash F (pairs_in ed h v i) ≡ false
  clear_round i l k = is_false _ (λ e. let r = clash_found F L ω (record { point = number_in h.spelling 0; value = number_in h.spelling 0 }) (pairs_in ed h v i) e in
      k (i, l, refl, (r.0, r.1, r.2, r.3, λ agree. r.4.1 (agree r.4.0))))

  one_round : (i m : ℕ) (used : List Place) → All P (from i used (suc m)).used →
      All P (used ++ places_of (level_of h i) (function_in ed h v i).places (part_words ed h v (shifts i)))
      × (clash F (pairs_in ed h v i) ≡ false → All P (from (suc i) (used ++ places_of (level_of h i) (function_in ed h v i).places (part_words ed h v (shifts i))) m).used)
  unfolding decide_rest function_in pairs_in
  one_round i m used k =
      go (clash F (pairs_in ed h v i)) (subst (λ (r : Rest (Element h.spelling)). All P (decide_rest F ω (level_of h i) (function_in ed h v i) (part_element ed h v (fold i) 0) used r).used) (rest_round ed h v i m) k)
    where
      now : List Place
      now = used ++ places_of (level_of h i) (function_in ed h v i).places (part_words ed h v (shifts i))

      go : (c : Bool) → All P (cond c (record { outcome = refused 8 (suc i); used = now }) (from (suc i) now m)).used → All P now × (c ≡ false → All P (from (suc i) now m).used)
      go true k = (k, λ e. absurd (true≢false e))
      go false k = (used_before F ω P (rest_after ed h v (suc i) m) (level_of h (suc i)) (function_in ed h v (suc i)) (part_element ed h v (fold (suc i)) 0) now k, λ e. k)

  -- the coins of round k + 1, where no round before clashes
  shifts_listed : (m i : ℕ) (used : List Place) → i + m ≡ M → All P (from i used m).used → (k : ℕ) → i ≤ k → k < M → ((q : ℕ) → q < suc k → ClashFault ed h v q → ⊥) →
      All P (places_of (level_of h k) (function_in ed h v k).places (part_words ed h v (shifts k)))
  shifts_listed zero i used e a k l u clear = absurd (omega arith)
  shifts_listed (suc m) i used e a k l u clear = go (dec_lt i k) (λ b. shifts_listed m (suc i) now (omega arith) ((one_round i m used a).1 (clear_round i (omega arith) (clear (suc i) (omega arith)))) k b u clear)
    where
      now : List Place
      now = used ++ places_of (level_of h i) (function_in ed h v i).places (part_words ed h v (shifts i))

      go : Dec (i < k) → (suc i ≤ k → All P (places_of (level_of h k) (function_in ed h v k).places (part_words ed h v (shifts k)))) → All P (places_of (level_of h k) (function_in ed h v k).places (part_words ed h v (shifts k)))
      go (yes b) r = r b
      go (no b) r = subst (λ (n : ℕ). All P (places_of (level_of h n) (function_in ed h v n).places (part_words ed h v (shifts n)))) (let f : i ≡ k = omega arith in f) (all_right P used _ (one_round i m used a).0)

  -- the final coins treated, where no round clashes
  finals_listed : (m i : ℕ) (used : List Place) → i + m ≡ M → All P (from i used m).used → ((q : ℕ) → ClashFault ed h v q → ⊥) →
      All P (places_of (level_of h M) (function_in ed h v M).places (treated (part_words ed h v finals) (first_true 0 (final_tests ed h v))))
  unfolding decide_rest decide_final
  finals_listed zero i used e a clear =
      all_right P used _ (subst (λ (r : Rest (Element h.spelling)). All P (decide_rest F ω (level_of h M) (function_in ed h v M) (part_element ed h v (fold M) 0) used r).used) (rest_final ed h v)
      (subst (λ (j : ℕ). All P (from j used 0).used) (let f : i ≡ M = omega arith in f) a))
  finals_listed (suc m) i used e a clear =
      finals_listed m (suc i) (used ++ places_of (level_of h i) (function_in ed h v i).places (part_words ed h v (shifts i))) (omega arith) ((one_round i m used a).1 (clear_round i (omega arith) (clear (suc i)))) clear

  -- a final coin that fails is a fault
  final_fault : (j : ℕ) → j < length (final_tests ed h v) → get_or (final_tests ed h v) j false ≡ true → FinalFault ed h v j
  unfolding differences
  final_fault j l e =
      let n = part_length_lem ed h v full finals tt in
      let k : j < length (part_words ed h v finals) = omega (arith, l, length-map (part_words ed h v finals) test) in
      let u : j < part_length h finals = omega (arith, k, n) in
      (u, element_differ F L _ _ (sym (get_d_map test (part_words ed h v finals) 0 false j k ∙ ap test (part_word_lem ed h v full finals j u)) ∙ e))
    where
      test : ℕ → Bool
      test y = not (F.equal (evaluate F (part_elements ed h v (words numbered.final)) (shift_point F ω (level_of h M) y)) (fold_at F ω (level_of h M) (function_in ed h v M).value (part_element ed h v (fold M) 0) y))

  -- EVERY PLACE THAT IS USED IS LISTED.
  listed : All P (from 0 [] M).used → (i y : ℕ) → Used ed h v i y → P (record { table = i; number = y })
  unfolding treated
  listed a _ _ (faults.Used.by_shift i j m l u k c) =
      subst (λ (n : ℕ). P (record { table = i; number = n + m * shift_count (level_of h i) })) (part_word_lem ed h v full (shifts i) j u)
      (coin_listed P (level_of h i) (part_words ed h v (shifts i))
      (subst (λ (f : ℕ → List Place). All P (places_of (level_of h i) f (part_words ed h v (shifts i)))) (own_places ed h v i) (shifts_listed M 0 [] (omega arith) a i (omega arith) l c.1))
      j m (omega (arith, part_length_lem ed h v full (shifts i) l)) k)
  listed a _ _ (faults.Used.by_final j m u k c) =
      subst (λ (n : ℕ). P (record { table = M; number = n + m * shift_count (level_of h M) })) (part_word_lem ed h v full finals j u)
      (go (first_true 0 (final_tests ed h v)) (first_true_lem 0 (final_tests ed h v))
      (subst (λ (f : ℕ → List Place). All P (places_of (level_of h M) f (treated (part_words ed h v finals) (first_true 0 (final_tests ed h v))))) (own_places ed h v M) (finals_listed M 0 [] (omega arith) a c.1)))
    where
      long : j < length (part_words ed h v finals)
      long = omega (arith, u, part_length_lem ed h v full finals tt)

      go : (o : Option ℕ) → FirstTrue 0 (final_tests ed h v) o → All P (places_of (level_of h M) (own_place (level_of h M)) (treated (part_words ed h v finals) o)) →
          P (record { table = M; number = get_or (part_words ed h v finals) j 0 + m * shift_count (level_of h M) })
      go none f b = coin_listed P (level_of h M) (part_words ed h v finals) b j m long k
      go (some q) f b = go' (dec_lt q j)
        where
          go' : Dec (q < j) → P (record { table = M; number = get_or (part_words ed h v finals) j 0 + m * shift_count (level_of h M) })
          go' (yes z) = let e = f.1 in absurd (c.2 f.0 (omega arith) (final_fault f.0 f.2 f.3))
          go' (no z) =
              let w = part_words ed h v finals in
              subst (λ (n : ℕ). P (record { table = M; number = n + m * shift_count (level_of h M) })) (get_or-take (suc q) w j 0 (omega arith))
              (coin_listed P (level_of h M) (take (suc q) w) b j m (omega (arith, long, length-take (suc q) w)) k)

-- ---- a file that passes reading

verdict_is : (ed : Edition) (file : List ℕ) → reading ed file ≡ accepted → verify_in ed file ≡ deciding ed (stream_of file)
unfolding verify_in then_verdict
verdict_is ed file read = ap (λ (o : Outcome). then_verdict o (deciding ed (stream_of file))) read

module _ (ed : Edition) (x : List ℕ) (read : reading ed x ≡ accepted) where
  abbrev sheet : Sheet
  sheet = sheet_in ed x

  abbrev outcome : Outcome
  outcome = out_tests (sheet_in ed x) (sheet_length ed) (layout (sheet_in ed x)) (stream_of x)

  abbrev decided : Decision
  decided = decide (sheet_field (sheet_in ed x)) (sheet_root (sheet_in ed x)) (first_level (sheet_in ed x)) (read_transcript (sheet_in ed x).spelling (sheet_in ed x) (drop (sheet_length ed) (stream_of x)))

  -- where 7 or 14 is given, an out coin is at fault
  refused_outs : (n q : ℕ) → outcome ≡ refused n q → OutsPass ed sheet (stream_of x) → ⊥
  unfolding out_tests out_test equal_test refuse_at ◌then◌ deciding then_verdict
  refused_outs n q e pass = go (first_true _ _) (first_true _ _) e (says n q e)
    where
      says : (m r : ℕ) → outcome ≡ refused m r → (verify_in ed x).outcome ≡ refused m r
      says m r f = ap (λ (v : Verdict). v.outcome) (verdict_is ed x read) ∙ ap (λ (o : Outcome). (then_verdict o (counted decided)).outcome) f

      go : (a b : Option ℕ) → (refuse_at 7 a then refuse_at 14 b) ≡ refused n q → (verify_in ed x).outcome ≡ refused n q → ⊥
      go (some r) b f s = pass.0 r ((refused_exactly ed x 7 r).0 (s ∙ sym f)).there
      go none (some r) f s = pass.1 r ((refused_exactly ed x 14 r).0 (s ∙ sym f)).there
      go none none f s = let z : ◌≡◌ {A = ℕ} 0 1 = cc in omega arith

  pub used_listed : (P : Place → Type 0) → All P (places_used ed x) → (i y : ℕ) → Used ed (sheet_in ed x) (stream_of x) i y → P (record { table = i; number = y })
  unfolding places_used places_after
  used_listed P a i y u = go outcome refl a
    where
      passes : (i y : ℕ) → Used ed (sheet_in ed x) (stream_of x) i y → OutsPass ed sheet (stream_of x)
      passes _ _ (faults.Used.by_shift i j m l k n c) = c.0
      passes _ _ (faults.Used.by_final j m k n c) = c.0

      go : (o : Outcome) → outcome ≡ o → All P (places_after o decided.used) → P (record { table = i; number = y })
      go accepted e a = listed ed sheet (sheet_laws ed (stream_of x)) (stream_of x) (ordered ed x read).full P (subst (λ (d : Decision). All P d.used) (decide_rounds ed sheet (stream_of x) (ordered ed x read).long) a) i y u
      go (refused n q) e a = absurd (refused_outs n q e (passes i y u))

  -- the reads are these places, counted
  pub used_counted : (verify_in ed x).reads ≡ reads_of (places_used ed x)
  unfolding deciding counted places_used reads_of then_verdict places_after different
  used_counted = ap (λ (v : Verdict). v.reads) (verdict_is ed x read) ∙ go outcome
    where
      go : (o : Outcome) → (then_verdict o (counted decided)).reads ≡ reads_of (places_after o decided.used)
      go accepted = refl
      go (refused n q) = refl

-- DEPENDENCE, by the places that deciding lists.
pub dependence : (ed : Edition) (x y : List ℕ) → reading ed x ≡ accepted → reading ed y ≡ accepted → SameOutside ed (sheet_in ed x) (stream_of x) (stream_of y) →
    SameAt ed (sheet_in ed x) (places_used ed x) (stream_of x) (stream_of y) → verify_in ed x ≡ verify_in ed y
dependence ed x y rx ry same used = SameVerdict.dependence ed x y rx ry same (λ i n u. used_listed ed x rx _ used i n u)
