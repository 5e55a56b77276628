-- What deciding depends on: two transcripts that differ in their tables alone, and agree there at every place that is used in the first, come to one decision.
use Prim.Native.Nat.{ℕ, zero, suc, ◌+◌, ◌*◌, ◌≤◌, ◌<◌}
use Rattle.std.proofs.Math.Decide.{dec_lt}
use Rattle.std.proofs.Math.Nat.{min-le_left}
use native.Mathlib.Omega.{arith}
use Rattle.std.proofs.Math.Bool.{Bool}
use Rattle.std.specs.Prelude.{true, false, not, cond, ◌≡◌, length, take, drop}
use Rattle.std.proofs.Common.{true≢false, ◌∙◌, length-take}
use mathlib.Core.List.{List, [], ◌∷◌, ◌++◌, map}
use Rattle.std.proofs.Math.Path.{refl, sym, ap, subst}
use Rattle.std.proofs.Math.ListN.{get_or}
use Rattle.std.proofs.lemmas.List.{length-map}
use Rattle.std.proofs.lemmas.Bool.{not-false}
use Rattle.definition.specs.Deciding.{Decision, Place, answers, decide_final, decide_rest, differences, next_function, own_place, places_of, table_function, treated}
use Rattle.definition.specs.Domain.{fold_at, point, root_numbers, shift_point}
use Rattle.definition.specs.Field.{Element, Field, Spelling, elements_in, number_in, word_count}
use Rattle.definition.specs.Lists.{first_true, range}
use Rattle.definition.specs.Polynomial.{Sample, clash, corrected_value, distinct, evaluate, interpolate, pair}
use Rattle.definition.specs.Sheet.{Edition, Level, Sheet, shift_count}
use Rattle.definition.specs.Transcript
use Rattle.definition.specs.Verdict.{refuse_at, refused}
use Rattle.list_laws.specs.All.{All, all_of_map, all_places, all_range, map_all}
use Rattle.list_laws.specs.Lists.{get_d_map}
use Rattle.algebra.specs.FieldIn.{zero_in}
use Rattle.algebra.specs.Laws.{FieldLaws}
use Rattle.layouts.specs.Levels.{element_at, level_of, rounds_of, sheet_field, sheet_root}
use Rattle.layouts.specs.Spellings.{at_beyond, count_below, count_mono, read_at_lem, read_from}
use Rattle.completeness.specs.DecidedByNumber.{rest_final, rest_round, rest_after}
use Rattle.completeness.specs.Faults
use Rattle.completeness.specs.Faults.{ClashFault, due_of, FinalFault, OutsPass, Part, PartDue, SameWhereUsed, Used, combination, finals, fold, function_in, outs, pairs_in, part_element, part_elements, part_length, part_start, part_word, part_words, shifts, words}
use Rattle.completeness.specs.Numbered.{count_of, final, replies, table}
use Rattle.completeness.specs.PairsByNumber.{part_length_lem, part_word_lem}
use Rattle.completeness.specs.TestsByNumber.{clash_there}

-- two rows of tests that agree up to the first true one of the first
pub same_first : (start : ℕ) (bs cs : List Bool) → length bs ≡ length cs →
    ((j : ℕ) → j < length bs → ((i : ℕ) → i < j → get_or bs i false ≡ false) → get_or bs j false ≡ get_or cs j false) → first_true start bs ≡ first_true start cs
unfolding first_true
same_first start [] [] n o = refl
same_first start [] (c ∷ cs) n o = absurd (omega arith)
same_first start (b ∷ bs) [] n o = absurd (omega arith)
same_first start (b ∷ bs) (c ∷ cs) n o =
    go b c (o 0 (omega arith) (λ i l. absurd (omega arith)))
    (λ e. same_first (suc start) bs cs (omega arith) (λ j l k. o (suc j) (omega arith) (before e k)))
  where
    before : {j : ℕ} → b ≡ false → ((i : ℕ) → i < j → get_or bs i false ≡ false) → (i : ℕ) → i < suc j → get_or (b ∷ bs) i false ≡ false
    before e k zero l = e
    before e k (suc i) l = k i (omega arith)

    go : (x y : Bool) → x ≡ y → (x ≡ false → first_true (suc start) bs ≡ first_true (suc start) cs) → first_true start (x ∷ bs) ≡ first_true start (y ∷ cs)
    go true true e k = refl
    go true false e k = absurd (true≢false e)
    go false true e k = absurd (true≢false (sym e))
    go false false e k = k refl

-- an entry of a part of two streams with the same element there
pub same_entry : (σ : Spelling) (v w : List ℕ) (n a m : ℕ) → element_at σ v (a + word_count σ m) ≡ element_at σ w (a + word_count σ m) →
    get_or (elements_in σ (take (word_count σ n) (drop a v))) m (number_in σ 0) ≡ get_or (elements_in σ (take (word_count σ n) (drop a w))) m (number_in σ 0)
same_entry σ v w n a m e = go (dec_lt m n)
  where
    short : (u : List ℕ) → (m < n → ⊥) → get_or (elements_in σ (take (word_count σ n) u)) m (number_in σ 0) ≡ number_in σ 0
    short u l =
        read_at_lem σ (take (word_count σ n) u) m
        ∙ at_beyond σ (take (word_count σ n) u) (word_count σ m) (let k : n ≤ m = omega arith in omega (arith, length-take (word_count σ n) u, min-le_left (word_count σ n) (length u), count_mono σ n m k))

    go : Dec (m < n) → get_or (elements_in σ (take (word_count σ n) (drop a v))) m (number_in σ 0) ≡ get_or (elements_in σ (take (word_count σ n) (drop a w))) m (number_in σ 0)
    go (yes l) = read_from σ v a (word_count σ n) m (count_below σ m n l) ∙ e ∙ sym (read_from σ w a (word_count σ n) m (count_below σ m n l))
    go (no l) = short (drop a v) l ∙ sym (short (drop a w) l)

-- a fold looks at the k roots alone
fold_same : {A : Type 0} (F : Field A) (ω : A) (b : Level) (f g : ℕ → A) (r : A) (j : ℕ) → ((m : ℕ) → m < b.fold → f (j + m * shift_count b) ≡ g (j + m * shift_count b)) →
    fold_at F ω b f r j ≡ fold_at F ω b g r j
unfolding fold_at root_numbers
fold_same {A} F ω b f g r j o =
    ap (λ (s : List (Sample A)). evaluate F (interpolate F s) r)
    (map_all {B = Sample A} (λ m. f m ≡ g m) _ _ (root_numbers b j)
    (all_of_map (λ m. f m ≡ g m) (λ m. j + m * shift_count b) (range 0 b.fold) (all_range _ 0 b.fold (λ m l u. o m (omega arith))))
    (λ m e i. record { point = point F ω b m; value = e i }))

-- The streams v and w, of sheet h, differ in their tables alone.
pub record Beside (ed : Edition) (h : Sheet) (v w : List ℕ) : Type 0 where
  pub outs_same : (i : ℕ) → i < rounds_of h → part_elements ed h v (outs i) ≡ part_elements ed h w (outs i)
  pub replies_same : (i : ℕ) → i < rounds_of h → part_elements ed h v (words (replies (suc i))) ≡ part_elements ed h w (words (replies (suc i)))
  pub combination_same : (i : ℕ) → i < rounds_of h → part_element ed h v (combination i) 0 ≡ part_element ed h w (combination i) 0
  pub fold_same_case : (i : ℕ) → i ≤ rounds_of h → part_element ed h v (fold i) 0 ≡ part_element ed h w (fold i) 0
  pub shifts_same : (i : ℕ) → i < rounds_of h → part_words ed h v (shifts i) ≡ part_words ed h w (shifts i)
  pub final_same : part_elements ed h v (words final) ≡ part_elements ed h w (words final)
  pub finals_same : part_words ed h v finals ≡ part_words ed h w finals

-- f_i's places are its own table's
pub own_places : (ed : Edition) (h : Sheet) (w : List ℕ) (i : ℕ) → (function_in ed h w i).places ≡ own_place (level_of h i)
unfolding function_in table_function next_function
own_places ed h w zero = refl
own_places ed h w (suc i) = refl

module _ (ed : Edition) (h : Sheet) (L : FieldLaws (sheet_field h)) (v w : List ℕ) (beside : Beside ed h v w) (full : due_of ed h ≤ length v) (used : SameWhereUsed ed h v w) (outside : OutsPass ed h v) where
  abbrev M : ℕ
  M = rounds_of h

  abbrev F : Field (Element h.spelling)
  F = sheet_field h

  abbrev ω : Element h.spelling
  ω = sheet_root h

  -- f_i of both have one value at a point that is used
  abbrev Agreeing : ℕ → Type 0
  Agreeing i = (y : ℕ) → Used ed h v i y → (function_in ed h v i).value y ≡ (function_in ed h w i).value y

  table_entry : (i y : ℕ) → i ≤ M → Used ed h v i y → get_or (part_elements ed h v (words (table i))) y (sheet_field h).𝟘 ≡ get_or (part_elements ed h w (words (table i))) y (sheet_field h).𝟘
  unfolding part_words part_length count_of
  table_entry i y l u =
      let z = zero_in h.spelling h.prime in
      subst (λ (d : Element h.spelling). get_or (part_elements ed h v (words (table i))) y d ≡ get_or (part_elements ed h w (words (table i))) y d) (sym z)
      (same_entry h.spelling v w (level_of h i).size (part_start ed h (words (table i))) y (used i y u))

  agree_first : Agreeing 0
  unfolding function_in table_function
  agree_first y u = table_entry 0 y (omega arith) u

  agree_next : (i : ℕ) → i < M → pairs_in ed h v i ≡ pairs_in ed h w i → Agreeing (suc i)
  unfolding function_in next_function pairs_in
  agree_next i l e y u = λ t.
      corrected_value F (distinct F (e t)) (beside.combination_same i l t) (point F ω (level_of h (suc i)) y) (table_entry (suc i) y l u t)

  -- at the roots of a coin all of whose roots are used, the folds are equal
  folds_same : (i : ℕ) (r : Element h.spelling) (x : Part) (a : ℕ) → PartDue h x → a < length (part_words ed h v x) → Agreeing i →
      ((m : ℕ) → a < part_length h x → m < (level_of h i).fold → Used ed h v i (part_word ed h v x a + m * shift_count (level_of h i))) →
      fold_at F ω (level_of h i) (function_in ed h v i).value r (get_or (part_words ed h v x) a 0) ≡ fold_at F ω (level_of h i) (function_in ed h w i).value r (get_or (part_words ed h v x) a 0)
  folds_same i r x a d l agree roots =
      let u : a < part_length h x = omega (arith, part_length_lem ed h v full x d) in
      subst (λ (j : ℕ). fold_at F ω (level_of h i) (function_in ed h v i).value r j ≡ fold_at F ω (level_of h i) (function_in ed h w i).value r j) (sym (part_word_lem ed h v full x a u))
      (fold_same F ω (level_of h i) (function_in ed h v i).value (function_in ed h w i).value r (part_word ed h v x a) (λ m o. agree (part_word ed h v x a + m * shift_count (level_of h i)) (roots m u o)))

  -- the pairs of a round that is treated
  pairs_same : (i : ℕ) → i < M → ((q : ℕ) → q < suc i → ClashFault ed h v q → ⊥) → Agreeing i → pairs_in ed h v i ≡ pairs_in ed h w i
  unfolding pairs_in answers
  pairs_same i l clear agree =
      ap (λ (z : List (Sample (Element h.spelling))). pair (part_elements ed h v (outs i)) (part_elements ed h v (words (replies (suc i)))) ++ z)
      (map_all {B = Sample (Element h.spelling)} (λ j. fold_at F ω (level_of h i) (function_in ed h v i).value r j ≡ fold_at F ω (level_of h i) (function_in ed h w i).value r j) _ _ (part_words ed h v (shifts i)) folds
      (λ j e t. record { point = shift_point F ω (level_of h i) j; value = e t }))
      ∙ (λ t. pair (beside.outs_same i l t) (beside.replies_same i l t) ++ map (λ j. record {
        point = shift_point F ω (level_of h i) j;
        value = fold_at F ω (level_of h i) (function_in ed h w i).value (beside.fold_same_case i (omega arith) t) j;
      }) (beside.shifts_same i l t))
    where
      r : Element h.spelling
      r = part_element ed h v (fold i) 0

      folds : All (λ j. fold_at F ω (level_of h i) (function_in ed h v i).value r j ≡ fold_at F ω (level_of h i) (function_in ed h w i).value r j) (part_words ed h v (shifts i))
      folds = all_places _ (part_words ed h v (shifts i)) 0 (λ a u. folds_same i r (shifts i) a l u agree (λ m o g. Faults.Used.by_shift i a m l o g (outside, clear)))

  places_same : (i : ℕ) → (function_in ed h v i).places ≡ (function_in ed h w i).places
  places_same i = own_places ed h v i ∙ sym (own_places ed h w i)

  -- the final comparisons, up to the first that fails
  final_same_lem : (before : List Place) → ((q : ℕ) → ClashFault ed h v q → ⊥) → Agreeing M →
      decide_final F ω (level_of h M) (function_in ed h v M) (part_element ed h v (fold M) 0) before (part_elements ed h v (words final)) (part_words ed h v finals)
      ≡ decide_final F ω (level_of h M) (function_in ed h w M) (part_element ed h w (fold M) 0) before (part_elements ed h w (words final)) (part_words ed h w finals)
  unfolding decide_final differences
  final_same_lem before clear agree =
      (λ t. record { outcome = refuse_at 9 (fault t); used = before ++ places_of (level_of h M) (function_in ed h v M).places (treated (part_words ed h v finals) (fault t)) })
      ∙ (λ t. let found = first_true 0 (differences F ω (level_of h M) (function_in ed h w M).value (beside.fold_same_case M (omega arith) t) (beside.final_same t) (beside.finals_same t)) in
      record { outcome = refuse_at 9 found; used = before ++ places_of (level_of h M) (places_same M t) (treated (beside.finals_same t) found) })
    where
      row : (ℕ → Element h.spelling) → List Bool
      row f = differences F ω (level_of h M) f (part_element ed h v (fold M) 0) (part_elements ed h v (words final)) (part_words ed h v finals)

      test : (ℕ → Element h.spelling) → ℕ → Bool
      test f y = not (F.equal (evaluate F (part_elements ed h v (words final)) (shift_point F ω (level_of h M) y)) (fold_at F ω (level_of h M) f (part_element ed h v (fold M) 0) y))

      row_length : (f : ℕ → Element h.spelling) → length (row f) ≡ length (part_words ed h v finals)
      row_length f = length-map (part_words ed h v finals) _

      row_at : (f : ℕ → Element h.spelling) (j : ℕ) → j < length (part_words ed h v finals) → get_or (row f) j false ≡ test f (get_or (part_words ed h v finals) j 0)
      row_at f j l = get_d_map (test f) (part_words ed h v finals) 0 false j l

      matched : (j : ℕ) → j < length (part_words ed h v finals) → get_or (row (function_in ed h v M).value) j false ≡ false → FinalFault ed h v j → ⊥
      matched j l e k = k.1 (L.equal_true _ _ (not-false _ (sym (ap (test (function_in ed h v M).value) (part_word_lem ed h v full finals j k.0)) ∙ sym (row_at (function_in ed h v M).value j l) ∙ e)))

      fault : first_true 0 (row (function_in ed h v M).value) ≡ first_true 0 (row (function_in ed h w M).value)
      fault = same_first 0 (row (function_in ed h v M).value) (row (function_in ed h w M).value) (row_length _ ∙ sym (row_length _))
          (λ j l none. let u : j < length (part_words ed h v finals) = omega (arith, row_length (function_in ed h v M).value) in
          row_at (function_in ed h v M).value j u
          ∙ ap (λ (y : Element h.spelling). not (F.equal (evaluate F (part_elements ed h v (words final)) (shift_point F ω (level_of h M) (get_or (part_words ed h v finals) j 0))) y))
          (folds_same M (part_element ed h v (fold M) 0) finals j tt u agree (λ m o g. Faults.Used.by_final j m o g (outside, clear, λ r b. matched r (omega arith) (none r b))))
          ∙ sym (row_at (function_in ed h w M).value j u))

  -- the rounds from round i + 1 on
  rests_same : (m i : ℕ) (before : List Place) → i + m ≡ M → ((q : ℕ) → q < suc i → ClashFault ed h v q → ⊥) → Agreeing i →
      decide_rest F ω (level_of h i) (function_in ed h v i) (part_element ed h v (fold i) 0) before (rest_after ed h v i m)
      ≡ decide_rest F ω (level_of h i) (function_in ed h w i) (part_element ed h w (fold i) 0) before (rest_after ed h w i m)
  unfolding decide_rest function_in pairs_in
  rests_same zero i before e clear agree =
      subst (λ (j : ℕ). decide_rest F ω (level_of h j) (function_in ed h v j) (part_element ed h v (fold j) 0) before (rest_after ed h v j 0)
      ≡ decide_rest F ω (level_of h j) (function_in ed h w j) (part_element ed h w (fold j) 0) before (rest_after ed h w j 0)) (let q : M ≡ i = omega arith in q)
      (ap (decide_rest F ω (level_of h M) (function_in ed h v M) (part_element ed h v (fold M) 0) before) (rest_final ed h v)
      ∙ final_same_lem before (λ q k. clear q (let o = k.1 in omega (arith, o, k.2)) k) (let q : i ≡ M = omega arith in subst Agreeing q agree)
      ∙ sym (ap (decide_rest F ω (level_of h M) (function_in ed h w M) (part_element ed h w (fold M) 0) before) (rest_final ed h w)))
  rests_same (suc m) i before e clear agree =
      ap (decide_rest F ω (level_of h i) (function_in ed h v i) (part_element ed h v (fold i) 0) before) (rest_round ed h v i m)
      ∙ go (clash F (pairs_in ed h v i)) refl (λ c. rests_same m (suc i) now (omega arith) (later c) (agree_next i l same))
      ∙ sym (ap (decide_rest F ω (level_of h i) (function_in ed h w i) (part_element ed h w (fold i) 0) before) (rest_round ed h w i m))
    where
      l : i < M
      l = omega arith

      same : pairs_in ed h v i ≡ pairs_in ed h w i
      same = pairs_same i l clear agree

      now : List Place
      now = before ++ places_of (level_of h i) (function_in ed h v i).places (part_words ed h v (shifts i))

      now' : List Place
      now' = before ++ places_of (level_of h i) (function_in ed h w i).places (part_words ed h w (shifts i))

      now_same : now ≡ now'
      now_same = λ t. before ++ places_of (level_of h i) (places_same i t) (beside.shifts_same i l t)

      later : clash F (pairs_in ed h v i) ≡ false → (q : ℕ) → q < suc (suc i) → ClashFault ed h v q → ⊥
      later c q u k = earlier (dec_lt q (suc i))
        where
          earlier : Dec (q < suc i) → ⊥
          earlier (yes o) = clear q o k
          earlier (no o) =
              let p = k.3 in
              let j : k.0 ≡ i = omega (arith, k.2) in
              true≢false (sym (clash_there F L ω (record { point = number_in h.spelling 0; value = number_in h.spelling 0 }) (pairs_in ed h v k.0) p.0 p.1 p.2 p.3 p.4)
              ∙ ap (λ (n : ℕ). clash F (pairs_in ed h v n)) j ∙ c)

      next : List Place → Decision
      next p = decide_rest F ω (level_of h (suc i)) (function_in ed h v (suc i)) (part_element ed h v (fold (suc i)) 0) p (rest_after ed h v (suc i) m)

      next' : List Place → Decision
      next' p = decide_rest F ω (level_of h (suc i)) (function_in ed h w (suc i)) (part_element ed h w (fold (suc i)) 0) p (rest_after ed h w (suc i) m)

      go : (c : Bool) → clash F (pairs_in ed h v i) ≡ c → (clash F (pairs_in ed h v i) ≡ false → next now ≡ next' now) →
          cond (clash F (pairs_in ed h v i)) (record { outcome = refused 8 (suc i); used = now }) (next now)
          ≡ cond (clash F (pairs_in ed h w i)) (record { outcome = refused 8 (suc i); used = now' }) (next' now')
      go true c k =
          ap (λ (b : Bool). cond b (record { outcome = refused 8 (suc i); used = now }) (next now)) c
          ∙ (λ t. record { outcome = refused 8 (suc i); used = now_same t })
          ∙ sym (ap (λ (b : Bool). cond b (record { outcome = refused 8 (suc i); used = now' }) (next' now')) (sym (λ t. clash F (same t)) ∙ c))
      go false c k =
          ap (λ (b : Bool). cond b (record { outcome = refused 8 (suc i); used = now }) (next now)) c
          ∙ k c ∙ ap next' now_same
          ∙ sym (ap (λ (b : Bool). cond b (record { outcome = refused 8 (suc i); used = now' }) (next' now')) (sym (λ t. clash F (same t)) ∙ c))

  -- with no clash so far and tables 0 that agree where they are used
  pub decided_same : decide_rest F ω (level_of h 0) (function_in ed h v 0) (part_element ed h v (fold 0) 0) [] (rest_after ed h v 0 M)
      ≡ decide_rest F ω (level_of h 0) (function_in ed h w 0) (part_element ed h w (fold 0) 0) [] (rest_after ed h w 0 M)
  decided_same = rests_same M 0 [] (omega arith) (λ q u k. omega (arith, k.2)) agree_first
