-- A file with the indices of one part in another order: the tests of out coins see no difference, and the run that deciding goes through is the same but for the
-- order of these coins.
use Rattle.std.specs.Prelude.{ℕ, zero, suc, ◌+◌, ◌-◌, ◌≤◌, ◌<◌, false, ◌≡◌, length, drop}
use Rattle.std.proofs.Math.Decide.{dec_lt}
use native.Mathlib.Omega.{arith}
use mathlib.Core.List.{List, [], map, Permᴰ}
use Rattle.std.proofs.Math.Option.{none}
use Rattle.std.proofs.Math.Path.{refl, sym, ap, subst}
use Rattle.std.proofs.Common.{◌∙◌}
use borrow.Author.Tests.{leb-false}
use Rattle.std.proofs.Math.ListN.{get_or, length-drop}
use Rattle.std.proofs.Math.Seq.{get_or-drop}
use Rattle.definition.specs.Block.{stream_of}
use Rattle.definition.specs.Deciding.{Decision, decide, decide_rest, equal_test, out_test, out_tests, table_function}
use Rattle.definition.specs.Field.{Element, Spelling, begun_by, elements_in, number_in}
use Rattle.definition.specs.Layout.{Kind, layout, limit, message, out, out_layout, read_rest, read_transcript}
use Rattle.definition.specs.Lists.{first_true, range}
use Rattle.definition.specs.Reading.{out_of_range, reading}
use Rattle.definition.specs.Sheet.{Edition, Sheet, first_level, sheet_length}
use Rattle.definition.specs.Transcript
use Rattle.definition.specs.Transcript.{Rest, Round}
use Rattle.definition.specs.Verdict.{◌then◌, accepted, refuse_at}
use Rattle.algebra.specs.FieldIn.{read_below, reduced_in}
use Rattle.algebra.specs.Laws.{FieldLaws}
use Rattle.list_laws.specs.All.{All, all_map, all_places}
use Rattle.layouts.specs.Spellings.{at_drop, begun_at, begun_length, count_below, count_one}
use Rattle.layouts.specs.Levels.{element_at, level_of, out_coin_count, round_start, rounds_of, sheet_field, sheet_root, words_for}
use Rattle.completeness.specs.DecidedByNumber.{decide_rounds, rest_final, rest_round, rest_after}
use Rattle.completeness.specs.EqualOuts.{SameOuts, repeated_same}
use Rattle.completeness.specs.FrontOfStream.{inside_front}
use Rattle.completeness.specs.Faults.{Part, PartDue, combination, due_of, finals, fold, function_in, outs, part_element, part_elements, part_length, part_start, part_words, round_in, sheet_in, shifts, words}
use Rattle.completeness.specs.Numbered.{final, replies, table}
use Rattle.completeness.specs.PairsByNumber.{part_element_lem, part_length_lem, part_word_lem}
use Rattle.completeness.specs.PartsByNumber.{ends, every_word, outs_cases, outs_first, part_below, part_kind}
use Rattle.completeness.specs.Ready.{sheet_laws}
use Rattle.completeness.proofs.SameVerdict.{Ordered}
use Rattle.dependence.specs.Changes.{Indices, Reordered}
use Rattle.dependence.specs.Reordered as turned
use Rattle.dependence.proofs.TurnedWords as Words
use Rattle.dependence.proofs.TurnedWords.{Plain, finals_start, in_order, shifts_within}

module _ (ed : Edition) (x y : List ℕ) (p : Part) (ip : Indices (sheet_in ed x) p) (passed : reading ed x ≡ accepted) (t : Reordered ed x p y) where
  abbrev v : List ℕ
  v = stream_of x

  abbrev w : List ℕ
  w = stream_of y

  abbrev h : Sheet
  h = sheet_in ed x

  abbrev M : ℕ
  M = rounds_of h

  abbrev n₀ : ℕ
  n₀ = sheet_length ed

  abbrev ks : List Kind
  ks = layout h

  ov : Ordered ed (stream_of x)
  ov = Words.ov ed x y p ip passed t

  full_w : due_of ed h ≤ length w
  full_w = Words.full_w ed x y p ip passed t

  enough : (length ks ≤ length (drop n₀ v)) × (length ks ≤ length (drop n₀ w))
  enough = Words.enough ed x y p ip passed t

  part_same : (q : Part) → PartDue h q → Plain q → part_words ed h v q ≡ part_words ed h w q
  part_same = Words.part_same ed x y p ip passed t

  kind_at : (q : Part) → PartDue h q → (j : ℕ) → j < part_length h q → (z : ℕ) → n₀ + z ≡ part_start ed h q + j → get_or ks z message ≡ part_kind h q j
  kind_at = Words.kind_at ed x y p ip passed t

  -- ---- the elements of the other parts, and the tests of out coins

  abbrev σ : Spelling
  σ = (sheet_in ed x).spelling

  elements_same : (q : Part) → PartDue h q → Plain q → part_elements ed h v q ≡ part_elements ed h w q
  elements_same q d s = ap (elements_in (sheet_in ed x).spelling) (part_same q d s)

  -- the first element of a part of one
  one_element : (q : Part) → PartDue h q → Plain q → part_length h q ≡ words_for h 1 → part_element ed h v q 0 ≡ part_element ed h w q 0
  one_element q d s e =
      sym (part_element_lem ed h v ov.full q 0 1 e (omega arith))
      ∙ ap (λ (xs : List (Element (sheet_in ed x).spelling)). get_or xs 0 (number_in (sheet_in ed x).spelling 0)) (elements_same q d s) ∙ part_element_lem ed h w full_w q 0 1 e (omega arith)

  abbrev begun_v : List (Element (sheet_in ed x).spelling)
  begun_v = begun_by (sheet_in ed x).spelling (drop (sheet_length ed) (stream_of x))

  abbrev begun_w : List (Element (sheet_in ed x).spelling)
  begun_w = begun_by (sheet_in ed x).spelling (drop (sheet_length ed) (stream_of y))

  many : (length ks ≤ length begun_v) × (length ks ≤ length begun_w)
  many = (omega (arith, enough.0, begun_length σ (drop n₀ v)), omega (arith, enough.1, begun_length σ (drop n₀ w)))

  coin_same : (k m j : ℕ) → k < rounds_of h → m < out_coin_count h → n₀ + j ≡ part_start ed h (outs k) + words_for h m → get_or begun_v j (number_in σ 0) ≡ get_or begun_w j (number_in σ 0)
  unfolding part_length
  coin_same k m j d u s =
      let n = count_below σ m (out_coin_count h) u in
      let o = (count_one σ).0 in
      let last : words_for h m + (words_for h 1 - 1) < words_for h (out_coin_count h) = omega (arith, n, o) in
      let q = part_below ed h (outs k) d (words_for h m + (words_for h 1 - 1)) last in
      let here = sym (part_element_lem ed h v ov.full (outs k) m (out_coin_count h) refl u)
      ∙ ap (λ (xs : List (Element (sheet_in ed x).spelling)). get_or xs m (number_in σ 0)) (elements_same (outs k) d tt) ∙ part_element_lem ed h w full_w (outs k) m (out_coin_count h) refl u in
      begun_at σ (drop n₀ v) j (omega (arith, s, q.1, ov.full, length-drop n₀ v, o)) ∙ at_drop σ v n₀ j ∙ ap (element_at σ v) s ∙ here
      ∙ sym (begun_at σ (drop n₀ w) j (omega (arith, s, q.1, full_w, length-drop n₀ w, o)) ∙ at_drop σ w n₀ j ∙ ap (element_at σ w) s)

  by_part : (j : ℕ) (q : Part) → PartDue h q → (i : ℕ) → i < part_length h q → n₀ + j ≡ part_start ed h q + i → SameOuts (part_kind h q i) (get_or begun_v j (number_in σ 0)) (get_or begun_w j (number_in σ 0))
  unfolding part_kind part_length
  by_part j (words m) d i l e = tt
  by_part j (outs k) d i l e =
      let o = out_layout σ (out_coin_count h) (level_of h (suc k)) in
      outs_cases σ (out_coin_count h) (level_of h (suc k)) i l
      (λ m u q. let s : n₀ + j ≡ part_start ed h (outs k) + words_for h m = omega (arith, e, q) in
      subst (λ (z : Kind). SameOuts z (get_or begun_v j (number_in σ 0)) (get_or begun_w j (number_in σ 0))) (sym (ap (λ (n : ℕ). get_or o n message) q ∙ outs_first σ (out_coin_count h) (level_of h (suc k)) m u)) (coin_same k m j d u s))
      (λ c. subst (λ (z : Kind). SameOuts z (get_or begun_v j (number_in σ 0)) (get_or begun_w j (number_in σ 0))) (sym c) tt)
  by_part j (combination k) d i l e = tt
  by_part j (fold k) d i l e = tt
  by_part j (shifts k) d i l e = tt
  by_part j finals d i l e = tt

  outs_same_lem : (j : ℕ) → j < length ks → SameOuts (get_or ks j message) (get_or begun_v j (number_in σ 0)) (get_or begun_w j (number_in σ 0))
  outs_same_lem j l =
      let q = every_word ed h (n₀ + j) (omega arith) (omega (arith, ov.kinds)) in
      let k = kind_at q.0 q.1 q.2.0 q.2.1 j q.2.2 in
      rw k (by_part j q.0 q.1 q.2.0 q.2.1 q.2.2)

  pub out_tests_same : out_tests h n₀ ks v ≡ out_tests h n₀ ks w
  unfolding out_tests out_test equal_test
  out_tests_same = λ i. refuse_at 7 (first_true n₀ (inside_front σ h (number_in σ 0) ks begun_v begun_w many.0 many.1 outs_same_lem i))
      then refuse_at 14 (first_true n₀ (repeated_same (sheet_field h) (number_in σ 0) none ks begun_v begun_w many.0 many.1 outs_same_lem i))

  -- ---- deciding

  pub first_same : function_in ed h v 0 ≡ function_in ed h w 0
  unfolding function_in
  first_same = ap (table_function (sheet_field h) (sheet_root h) (level_of h 0)) (elements_same (words (table 0)) (omega arith) tt)

  pub fold_same : part_element ed h v (fold 0) 0 ≡ part_element ed h w (fold 0) 0
  unfolding part_length
  fold_same = one_element (fold 0) (omega arith) tt refl

  -- the sheet's field, whose elements the out coins are
  pub field_laws : FieldLaws (sheet_field h)
  field_laws = sheet_laws ed v

  outs_limit : (i j : ℕ) → j < part_length h (outs i) → limit h.prime (part_kind h (outs i) j) ≡ h.prime
  unfolding part_kind part_length limit
  outs_limit i j l =
      outs_cases σ (out_coin_count h) (level_of h (suc i)) j l
      (λ m u q. ap (limit h.prime) (ap (λ (n : ℕ). get_or (out_layout σ (out_coin_count h) (level_of h (suc i))) n message) q ∙ outs_first σ (out_coin_count h) (level_of h (suc i)) m u))
      (λ c. ap (limit h.prime) c)

  outs_below : (i : ℕ) → i < M → All (λ a. a < h.prime) (part_words ed h v (outs i))
  unfolding out_of_range
  outs_below i l = all_places _ (part_words ed h v (outs i)) 0 (λ j u.
      let k : j < part_length h (outs i) = omega (arith, part_length_lem ed h v ov.full (outs i) l) in
      let b = part_below ed h (outs i) l j k in
      let z = part_start ed h (outs i) + j - n₀ in
      let e : n₀ + z ≡ part_start ed h (outs i) + j = omega (arith, b.0) in
      let g = subst (λ (c : Kind). out_of_range h c (get_or (drop n₀ v) z 0) ≡ false) (kind_at (outs i) l j k z e) (Words.good_at ed x y p ip passed t z (omega (arith, b.1, ov.kinds))) in
      let q : get_or (drop n₀ v) z 0 ≡ get_or (part_words ed h v (outs i)) j 0 = get_or-drop n₀ v z 0 ∙ ap (λ (n : ℕ). get_or v n 0) e ∙ sym (part_word_lem ed h v ov.full (outs i) j k) in
      omega (arith, q, outs_limit i j k, leb-false (limit h.prime (part_kind h (outs i) j)) (get_or (drop n₀ v) z 0) g))

  pub elements : (i : ℕ) → i < M → All (λ a. field_laws.reduce a ≡ a) (part_elements ed h v (outs i))
  elements i l = all_map (part_elements ed h v (outs i)) (read_below σ h.prime (part_words ed h v (outs i)) (outs_below i l)) (λ a q. reduced_in σ h.prime field_laws a q)

  -- round i + 1, but for its shift coins; and with them, where they come before the part
  round_same : (i : ℕ) → i < M → turned.reshift (round_in ed h v i) (part_words ed h w (shifts i)) ≡ round_in ed h w i
  unfolding turned.reshift part_length
  round_same i l = λ k. record {
    coins = record {
      level = level_of h (suc i);
      outs = elements_same (outs i) l tt k;
      combination = one_element (combination i) l tt refl k;
      fold = one_element (fold (suc i)) l tt refl k;
      shifts = part_words ed h w (shifts i);
    };
    table = elements_same (words (table (suc i))) l tt k;
    replies = elements_same (words (replies (suc i))) (omega arith, l) tt k;
  }

  round_before : (i : ℕ) → i < M → round_start ed h (suc (suc i)) ≤ part_start ed h p → round_in ed h v i ≡ round_in ed h w i
  unfolding turned.reshift
  round_before i l b =
      ap (turned.reshift (round_in ed h v i)) (Words.apart_same ed x y p ip passed t (shifts i) l (λ j g m u e. omega (arith, (shifts_within ed h i).1))) ∙ round_same i l

  -- what is read past the part
  pub after_same : (i m : ℕ) → part_start ed h p + part_length h p ≤ round_start ed h (suc i) → rest_after ed h v i m ≡ rest_after ed h w i m
  after_same i m l = ap (read_rest h.spelling (out_coin_count h) (level_of h i) (map (level_of h) (range (suc i) m))) (Words.rest_same ed x y p ip passed t (round_start ed h (suc i)) l)

  final_same_lem : part_elements ed h v (words final) ≡ part_elements ed h w (words final)
  final_same_lem = elements_same (words final) tt tt

  abbrev IsElement : Element (sheet_in ed x).spelling → Type 0
  IsElement a = field_laws.reduce a ≡ a

  -- the run from round i + 1 on, where the part is round k's
  shift_rests : (k : ℕ) → p ≡ shifts k → k < M → (m i : ℕ) → i + m ≡ M → i ≤ k → turned.ShiftsTurned IsElement (rest_after ed h v i m) (rest_after ed h w i m)
  shift_rests k q l zero i e u = absurd (omega arith)
  shift_rests k q l (suc m) i e u = go (dec_lt i k) (λ b. shift_rests k q l m (suc i) (omega arith) b)
    where
      start : part_start ed h p ≡ part_start ed h (shifts k)
      start = ap (part_start ed h) q

      ends : part_start ed h p + part_length h p ≡ round_start ed h (suc (suc k))
      ends = ap (λ (s : Part). part_start ed h s + part_length h s) q ∙ (shifts_within ed h k).1

      read : turned.ShiftsTurned IsElement (Transcript.round (round_in ed h v i) (rest_after ed h v (suc i) m)) (Transcript.round (round_in ed h w i) (rest_after ed h w (suc i) m)) →
          turned.ShiftsTurned IsElement (rest_after ed h v i (suc m)) (rest_after ed h w i (suc m))
      read z = subst (λ (r : Rest (Element (sheet_in ed x).spelling)). turned.ShiftsTurned IsElement r (rest_after ed h w i (suc m))) (sym (rest_round ed h v i m))
          (subst (λ (r : Rest (Element (sheet_in ed x).spelling)). turned.ShiftsTurned IsElement (Transcript.round (round_in ed h v i) (rest_after ed h v (suc i) m)) r) (sym (rest_round ed h w i m)) z)

      here : i ≡ k → turned.ShiftsTurned IsElement (Transcript.round (round_in ed h v i) (rest_after ed h v (suc i) m)) (Transcript.round (round_in ed h w i) (rest_after ed h w (suc i) m))
      here f =
          let d : Permᴰ (part_words ed h v (shifts i)) (part_words ed h w (shifts i)) =
          subst (λ (s : Part). Permᴰ (part_words ed h v s) (part_words ed h w s)) (q ∙ ap shifts (sym f)) t.order in
          let g : rest_after ed h v (suc i) m ≡ rest_after ed h w (suc i) m = after_same (suc i) m (omega (arith, ends, ap (λ (n : ℕ). round_start ed h (suc (suc n))) f)) in
          subst (λ (r : Rest (Element (sheet_in ed x).spelling)). turned.ShiftsTurned IsElement (Transcript.round (round_in ed h v i) (rest_after ed h v (suc i) m)) r)
          (λ z. Transcript.round (round_same i (omega arith) z) (g z))
          (turned.ShiftsTurned.here (round_in ed h v i) (part_words ed h w (shifts i)) (rest_after ed h v (suc i) m) (elements i (omega arith)) d)

      go : Dec (i < k) → (suc i ≤ k → turned.ShiftsTurned IsElement (rest_after ed h v (suc i) m) (rest_after ed h w (suc i) m)) → turned.ShiftsTurned IsElement (rest_after ed h v i (suc m)) (rest_after ed h w i (suc m))
      go (yes b) r = read (subst (λ (c : Round (Element (sheet_in ed x).spelling)). turned.ShiftsTurned IsElement (Transcript.round (round_in ed h v i) (rest_after ed h v (suc i) m)) (Transcript.round c (rest_after ed h w (suc i) m)))
          (round_before i (omega arith) (omega (arith, start, (shifts_within ed h k).0, in_order ed h (suc (suc i)) (suc k) (omega arith))))
          (turned.ShiftsTurned.later (round_in ed h v i) (rest_after ed h v (suc i) m) (rest_after ed h w (suc i) m) (r b)))
      go (no b) r = read (here (omega arith))

  final_rests : p ≡ finals → (m i : ℕ) → i + m ≡ M → turned.FinalsTurned (rest_after ed h v i m) (rest_after ed h w i m)
  final_rests q zero i e =
      subst (λ (j : ℕ). turned.FinalsTurned (rest_after ed h v j 0) (rest_after ed h w j 0)) (let f : M ≡ i = omega arith in f)
      (subst (λ (r : Rest (Element (sheet_in ed x).spelling)). turned.FinalsTurned r (rest_after ed h w M 0)) (sym (rest_final ed h v))
      (subst (λ (r : Rest (Element (sheet_in ed x).spelling)). turned.FinalsTurned (Transcript.final (part_elements ed h v (words final)) (part_words ed h v finals)) r)
      (ap (λ (c : List (Element (sheet_in ed x).spelling)). Transcript.final c (part_words ed h w finals)) final_same_lem ∙ sym (rest_final ed h w))
      (turned.FinalsTurned.here (part_elements ed h v (words final)) (part_words ed h v finals) (part_words ed h w finals)
      (subst (λ (s : Part). Permᴰ (part_words ed h v s) (part_words ed h w s)) q t.order))))
  final_rests q (suc m) i e =
      subst (λ (r : Rest (Element (sheet_in ed x).spelling)). turned.FinalsTurned r (rest_after ed h w i (suc m))) (sym (rest_round ed h v i m))
      (subst (λ (r : Rest (Element (sheet_in ed x).spelling)). turned.FinalsTurned (Transcript.round (round_in ed h v i) (rest_after ed h v (suc i) m)) r) (sym (rest_round ed h w i m))
      (subst (λ (c : Round (Element (sheet_in ed x).spelling)). turned.FinalsTurned (Transcript.round (round_in ed h v i) (rest_after ed h v (suc i) m)) (Transcript.round c (rest_after ed h w (suc i) m)))
      (round_before i (omega arith) (omega (arith, ap (part_start ed h) q, finals_start ed h, in_order ed h (suc (suc i)) (suc M) (omega arith))))
      (turned.FinalsTurned.later (round_in ed h v i) (rest_after ed h v (suc i) m) (rest_after ed h w (suc i) m) (final_rests q m (suc i) (omega arith)))))

  -- what deciding comes to
  abbrev decision_of : List ℕ → Decision
  decision_of u = decide (sheet_field h) (sheet_root h) (first_level h) (read_transcript h.spelling h (drop n₀ u))

  by_rounds : (u : List ℕ) → decision_of u ≡ decide_rest (sheet_field h) (sheet_root h) (level_of h 0) (function_in ed h u 0) (part_element ed h u (fold 0) 0) [] (rest_after ed h u 0 M)
  by_rounds u = decide_rounds ed h u ov.long

  same_beginning : (r : Rest (Element (sheet_in ed x).spelling)) → decide_rest (sheet_field h) (sheet_root h) (level_of h 0) (function_in ed h v 0) (part_element ed h v (fold 0) 0) [] r
      ≡ decide_rest (sheet_field h) (sheet_root h) (level_of h 0) (function_in ed h w 0) (part_element ed h w (fold 0) 0) [] r
  same_beginning r = λ i. decide_rest (sheet_field h) (sheet_root h) (level_of h 0) (first_same i) (fold_same i) [] r

  pub shifts_decided : (k : ℕ) → p ≡ shifts k → k < M → turned.Alike (decision_of v) (decision_of w)
  shifts_decided k q l =
      turned.alike_by _ _ _ _ (by_rounds v ∙ same_beginning (rest_after ed h v 0 M)) (by_rounds w)
      (turned.shifts_turned (sheet_field h) field_laws (sheet_root h) _ _ (shift_rests k q l M 0 (omega arith) (omega arith)) (level_of h 0) (function_in ed h w 0) (part_element ed h w (fold 0) 0) [])

  pub finals_decided : p ≡ finals → turned.NotNine (decision_of v).outcome → turned.Alike (decision_of v) (decision_of w)
  finals_decided q e =
      let b = by_rounds v ∙ same_beginning (rest_after ed h v 0 M) in
      turned.alike_by _ _ _ _ b (by_rounds w)
      (turned.finals_turned (sheet_field h) (sheet_root h) _ _ (final_rests q M 0 (omega arith)) (level_of h 0) (function_in ed h w 0) (part_element ed h w (fold 0) 0) [] (λ n f. e n (ap (λ (d : Decision). d.outcome) b ∙ f)))
