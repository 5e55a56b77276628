-- Deciding by number: the rounds as they stand in a stream, and the outcome as the first round that clashes and then the first final index that differs.
use Prim.Native.Nat.{ℕ, zero, suc, ◌+◌}
use Rattle.std.proofs.Common.{add_assoc, ◌∙◌}
use native.Mathlib.Omega.{arith}
use Rattle.std.specs.Prelude.{Bool, cond, ◌≡◌, take}
use Rattle.std.proofs.Math.Bool.{true, false}
use mathlib.Core.List.{List, [], ◌∷◌, ◌++◌, map}
use Rattle.std.proofs.Math.Path.{refl, ap}
use Rattle.std.proofs.Math.ListN.{get_or, drop}
use Rattle.std.proofs.Math.Seq.{drop-drop}
use Rattle.definition.specs.Deciding.{Decision, Place, decide, decide_final, decide_rest, differences, places_of, table_function}
use Rattle.definition.specs.Field.{Element, Field, Spelling, elements_in, number_in}
use Rattle.definition.specs.Layout.{later_count, read_rest, read_transcript, round_coins}
use Rattle.definition.specs.Lists.{first_true, range}
use Rattle.definition.specs.Polynomial.{clash}
use Rattle.definition.specs.Sheet.{Edition, Sheet, first_level, sheet_length}
use Rattle.definition.specs.Transcript
use Rattle.definition.specs.Transcript.{Rest}
use Rattle.definition.specs.Verdict.{Outcome, ◌then◌, refuse_at, refused}
use Rattle.list_laws.specs.Lists.{drop_take}
use Rattle.layouts.specs.Levels.{element_at, level_of, out_coin_count, round_count, round_start, rounds_of, sheet_field, sheet_root, words_for}
use Rattle.layouts.proofs.LevelsByNumber.{level_first, levels_later}
use Rattle.layouts.specs.LawfulSheets.{Paired}
use Rattle.layouts.specs.Spellings.{count_add, count_zero, read_drop, read_from}
use Rattle.completeness.specs.Faults.{combination, finals, fold, function_in, outs, pairs_in, part_element, part_elements, part_length, part_start, part_words, round_in, shifts, words}
use Rattle.completeness.specs.Numbered.{count_of, final, length_of, replies, start_of, table}

module _ (ed : Edition) (h : Sheet) (w : List ℕ) where
  abbrev σ : Spelling
  σ = h.spelling

  abbrev F : Field (Element h.spelling)
  F = sheet_field h

  abbrev ω : Element h.spelling
  ω = sheet_root h

  abbrev M : ℕ
  M = rounds_of h

  -- the words from round i on, as read_rest reads them
  round_read : (i : ℕ) →
      record {
        table = elements_in h.spelling (take (words_for h (level_of h (suc i)).size) (drop (round_start ed h (suc i)) w));
        coins = round_coins h.spelling (level_of h (suc i)) (take (words_for h (out_coin_count h)) (drop (words_for h (level_of h (suc i)).size) (drop (round_start ed h (suc i)) w)))
            (take (later_count h.spelling (level_of h i)) (drop (words_for h (out_coin_count h)) (drop (words_for h (out_coin_count h)) (drop (words_for h (level_of h (suc i)).size) (drop (round_start ed h (suc i)) w)))));
        replies = elements_in h.spelling (take (words_for h (out_coin_count h)) (drop (words_for h (out_coin_count h)) (drop (words_for h (level_of h (suc i)).size) (drop (round_start ed h (suc i)) w))));
      } ≡ round_in ed h w i
  unfolding round_coins later_count part_words part_start part_length start_of count_of
  round_read i =
      let a = round_start ed h (suc i) in
      let m = (level_of h (suc i)).size in
      let k = out_coin_count h in
      let n = words_for h m in
      let s = words_for h k in
      let t = (level_of h i).repetitions in
      let add = count_add σ in
      let at : ℕ → List ℕ = λ (j : ℕ). drop j w in
      let e₁ : drop n (drop a w) ≡ drop (a + n) w = drop-drop n a w in
      let q₂ : a + n + s ≡ a + words_for h (m + k) = omega (arith, add m k) in
      let e₂ : drop s (drop n (drop a w)) ≡ drop (a + words_for h (m + k)) w = ap (drop s) e₁ ∙ drop-drop s (a + n) w ∙ ap at q₂ in
      let q₃ : a + words_for h (m + k) + s ≡ a + words_for h (m + (k + k)) = omega (arith, add m k, add m (k + k), add k k) in
      let e₃ : drop s (drop s (drop n (drop a w))) ≡ drop (a + words_for h (m + (k + k))) w = ap (drop s) e₂ ∙ drop-drop s (a + words_for h (m + k)) w ∙ ap at q₃ in
      let q₄ : a + words_for h (m + (k + k)) + words_for h 1 ≡ a + words_for h (m + (k + (k + 1))) + words_for h 0 =
      omega (arith, add m (k + k), add k k, add m (k + (k + 1)), add k (k + 1), add k 1, count_zero σ) in
      let q₅ : a + words_for h (m + (k + k)) + words_for h 2 ≡ a + words_for h (m + (k + (k + 2))) = omega (arith, add m (k + k), add k k, add m (k + (k + 2)), add k (k + 2), add k 2) in
      let v = drop s (drop s (drop n (drop a w))) in
      let c = a + words_for h (m + (k + k)) in
      let two = add 1 1 in
      λ x. record {
        table = elements_in σ (take n (drop a w));
        coins = record {
          level = level_of h (suc i);
          outs = elements_in σ (take s (e₁ x));
          combination = (ap (λ (l : List ℕ). get_or (elements_in σ (take (words_for h 2 + t) l)) 0 (number_in σ 0)) e₃ ∙ read_from σ w c (words_for h 2 + t) 0 (omega (arith, two, count_zero σ))) x;
          fold = (ap (λ (l : List ℕ). get_or (elements_in σ (take (words_for h 2 + t) l)) 1 (number_in σ 0)) e₃ ∙ read_from σ w c (words_for h 2 + t) 1 (omega (arith, two)) ∙ ap (element_at σ w) q₄) x;
          shifts = (drop_take (words_for h 2) t v ∙ ap (take t) (ap (drop (words_for h 2)) e₃ ∙ drop-drop (words_for h 2) c w ∙ ap at q₅)) x;
        };
        replies = elements_in σ (take s (e₂ x));
      }

  next_words : (i : ℕ) → drop (later_count h.spelling (level_of h i))
      (drop (words_for h (out_coin_count h)) (drop (words_for h (out_coin_count h)) (drop (words_for h (level_of h (suc i)).size) (drop (round_start ed h (suc i)) w)))) ≡ drop (round_start ed h (suc (suc i))) w
  unfolding round_start round_count
  next_words i =
      let a = round_start ed h (suc i) in
      let n = words_for h (level_of h (suc i)).size in
      let s = words_for h (out_coin_count h) in
      let c = later_count σ (level_of h i) in
      ap (drop c) (ap (drop s) (ap (drop s) (drop-drop n a w) ∙ drop-drop s (a + n) w) ∙ drop-drop s (a + n + s) w) ∙ drop-drop c (a + n + s + s) w
      ∙ ap (λ (m : ℕ). drop m w) (let q : a + n + s + s + c ≡ a + (n + (s + (s + c))) = omega arith in q)

  -- what is read from the words after round i
  abbrev pub rest_after : ℕ → ℕ → Rest (Element h.spelling)
  rest_after i m = read_rest h.spelling (out_coin_count h) (level_of h i) (map (level_of h) (range (suc i) m)) (drop (round_start ed h (suc i)) w)

  pub rest_round : (i m : ℕ) → rest_after i (suc m) ≡ Transcript.round (round_in ed h w i) (rest_after (suc i) m)
  unfolding read_rest range
  rest_round i m = λ x. Transcript.round (round_read i x) (read_rest h.spelling (out_coin_count h) (level_of h (suc i)) (map (level_of h) (range (suc (suc i)) m)) (next_words i x))

  pub rest_final : rest_after M 0 ≡ Transcript.final (part_elements ed h w (words final)) (part_words ed h w finals)
  unfolding read_rest range part_words part_start part_length start_of count_of
  rest_final = λ x. Transcript.final (elements_in σ (take (length_of h final) (drop (round_start ed h (suc M)) w)))
      (take (level_of h M).repetitions (drop-drop (length_of h final) (round_start ed h (suc M)) w x))

  -- the rounds that clash from round i + 1 on, and the final comparisons
  abbrev pub clashes : ℕ → ℕ → List Bool
  clashes i m = map (λ j. clash F (pairs_in ed h w j)) (range i m)

  abbrev pub final_tests : List Bool
  final_tests = differences F ω (level_of h M) (function_in ed h w M).value (part_element ed h w (fold M) 0) (part_elements ed h w (words final)) (part_words ed h w finals)

  rest_decided : (m i : ℕ) (used : List Place) → i + m ≡ M →
      (decide_rest F ω (level_of h i) (function_in ed h w i) (part_element ed h w (fold i) 0) used (rest_after i m)).outcome
      ≡ (refuse_at 8 (first_true (suc i) (clashes i m)) then refuse_at 9 (first_true 0 final_tests))
  unfolding decide_rest decide_final range first_true refuse_at ◌then◌ function_in pairs_in
  rest_decided zero i used e =
      let q : i ≡ M = omega arith in
      ap (λ (j : ℕ). (decide_rest F ω (level_of h j) (function_in ed h w j) (part_element ed h w (fold j) 0) used (rest_after j 0)).outcome) q
      ∙ ap (λ (r : Rest (Element h.spelling)). (decide_rest F ω (level_of h M) (function_in ed h w M) (part_element ed h w (fold M) 0) used r).outcome) rest_final
  rest_decided (suc m) i used e =
      let now = used ++ places_of (level_of h i) (function_in ed h w i).places (part_words ed h w (shifts i)) in
      ap (λ (r : Rest (Element h.spelling)). (decide_rest F ω (level_of h i) (function_in ed h w i) (part_element ed h w (fold i) 0) used r).outcome) (rest_round i m)
      ∙ go (decide_rest F ω (level_of h (suc i)) (function_in ed h w (suc i)) (part_element ed h w (fold (suc i)) 0) now (rest_after (suc i) m)) now (clashes (suc i) m)
      (refuse_at 9 (first_true 0 final_tests)) (clash F (pairs_in ed h w i)) (rest_decided m (suc i) now (omega arith))
    where
      go : (d : Decision) (now : List Place) (bs : List Bool) (z : Outcome) (c : Bool) → d.outcome ≡ (refuse_at 8 (first_true (suc (suc i)) bs) then z) →
          (cond c (record { outcome = refused 8 (suc i); used = now }) d).outcome ≡ (refuse_at 8 (first_true (suc i) (c ∷ bs)) then z)
      go d now bs z true g = refl
      go d now bs z false g = g

  -- what follows fold coin 0 is read from the words after round 0
  pub first_rest : Paired h → (read_transcript h.spelling h (drop (sheet_length ed) w)).rest ≡ rest_after 0 M
  unfolding read_transcript first_level round_start round_count
  first_rest long =
      let n = words_for h (level_of h 0).size in
      let size : ℕ → ℕ = λ (m : ℕ). words_for h m in
      (λ x. read_rest σ (out_coin_count h) (level_first h x) (levels_later h long x) (drop (words_for h 1) (drop (size (level_first h x).size) (drop (sheet_length ed) w))))
      ∙ (λ x. read_rest σ (out_coin_count h) (level_of h 0) (map (level_of h) (range 1 M))
      ((ap (drop (words_for h 1)) (drop-drop n (sheet_length ed) w) ∙ drop-drop (words_for h 1) (sheet_length ed + n) w ∙ ap (λ (m : ℕ). drop m w) (add_assoc (sheet_length ed) n (words_for h 1))) x))

  -- deciding the words after the sheet
  pub decide_rounds : Paired h → decide F ω (first_level h) (read_transcript h.spelling h (drop (sheet_length ed) w))
      ≡ decide_rest F ω (level_of h 0) (function_in ed h w 0) (part_element ed h w (fold 0) 0) [] (rest_after 0 M)
  unfolding decide read_transcript first_level function_in part_words part_start part_length start_of count_of round_start
  decide_rounds long =
      let n = words_for h (level_of h 0).size in
      let size : ℕ → ℕ = λ (m : ℕ). words_for h m in
      (λ x. decide_rest F ω (level_first h x) (table_function F ω (level_first h x) (elements_in σ (take (size (level_first h x).size) (drop (sheet_length ed) w))))
      (get_or (elements_in σ (drop (size (level_first h x).size) (drop (sheet_length ed) w))) 0 (number_in σ 0)) [] (first_rest long x))
      ∙ (λ x. decide_rest F ω (level_of h 0) (function_in ed h w 0)
      ((ap (λ (l : List ℕ). get_or (elements_in σ l) 0 (number_in σ 0)) (drop-drop n (sheet_length ed) w) ∙ read_drop σ w (sheet_length ed + n) 0) x) [] (rest_after 0 M))

  pub decided : Paired h → (decide F ω (first_level h) (read_transcript h.spelling h (drop (sheet_length ed) w))).outcome
      ≡ (refuse_at 8 (first_true 1 (clashes 0 M)) then refuse_at 9 (first_true 0 final_tests))
  decided long = ap (λ (d : Decision). d.outcome) (decide_rounds long) ∙ rest_decided M 0 [] (omega arith)
