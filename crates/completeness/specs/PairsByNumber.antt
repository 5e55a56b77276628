-- The verifier's functions and pairs by number, of any stream that has the words due: each pair of a round's list, and each value of f_i, from single words.
use Prim.Native.Nat.{ℕ, zero, suc, ◌+◌, ◌≤◌, ◌<◌, min}
use native.Mathlib.Omega.{arith}
use mathlib.Core.List.{List, [], ◌∷◌, ◌++◌, map, zip_with}
use Rattle.std.specs.Prelude.{◌≡◌, length, drop}
use Rattle.std.proofs.Math.Path.{refl, sym, ap}
use Rattle.std.proofs.Common.{◌∙◌}
use Rattle.std.proofs.Math.ListN.{get_or, length-append, length-drop, length-map, length-take, get_or-append}
use Rattle.std.proofs.Math.Seq.{get_or-append-add, get_or-drop, get_or-take}
use Rattle.definition.specs.Deciding.{answers, next_function, table_function}
use Rattle.definition.specs.Domain.{fold_at, point, shift_point}
use Rattle.definition.specs.Field.{Element, Field, Spelling, number_in}
use Rattle.definition.specs.Polynomial.{Sample, corrected_value, distinct, pair}
use Rattle.definition.specs.Sheet.{Edition, Sheet}
use Rattle.list_laws.specs.Lists.{get_d_map}
use Rattle.algebra.specs.FieldIn.{zero_in}
use Rattle.layouts.specs.Levels.{level_of, out_coin_count, rounds_of, sheet_field, sheet_root, words_for}
use Rattle.layouts.specs.Spellings.{count_below, read_from, read_length}
use Rattle.completeness.specs.Faults.{Part, PartDue, combination, due_of, fold, function_in, outs, pair_in, pairs_in, part_element, part_elements, part_length, part_start, part_word, part_words, shifts, words}
use Rattle.completeness.specs.Numbered.{count_of, replies, table}
use Rattle.completeness.specs.PartsByNumber.{part_below}

-- two lists of one length, paired
pair_length : {A : Type 0} (xs ys : List A) → length xs ≡ length ys → length (pair xs ys) ≡ length xs
unfolding pair zip_with
pair_length [] ys e = refl
pair_length (x ∷ xs) [] e = absurd (omega arith)
pair_length (x ∷ xs) (y ∷ ys) e = ap suc (pair_length xs ys (omega arith))

pair_at : {A : Type 0} (z : A) (xs ys : List A) (d : Sample A) (j : ℕ) → length xs ≡ length ys → j < length xs → get_or (pair xs ys) j d ≡ record { point = get_or xs j z; value = get_or ys j z }
unfolding pair zip_with
pair_at z [] ys d j e l = absurd (omega arith)
pair_at z (x ∷ xs) [] d j e l = absurd (omega arith)
pair_at z (x ∷ xs) (y ∷ ys) d zero e l = refl
pair_at z (x ∷ xs) (y ∷ ys) d (suc j) e l = pair_at z xs ys d j (omega arith) (omega arith)

module _ (ed : Edition) (h : Sheet) (w : List ℕ) (full : due_of ed h ≤ length w) where
  abbrev σ : Spelling
  σ = h.spelling

  abbrev F : Field (Element h.spelling)
  F = sheet_field h

  abbrev ω : Element h.spelling
  ω = sheet_root h

  -- the words of a part, by number
  pub part_length_lem : (x : Part) → PartDue h x → length (part_words ed h w x) ≡ part_length h x
  unfolding part_words
  part_length_lem x d = length-take (part_length h x) (drop (part_start ed h x) w) ∙ go (part_length h x) refl
    where
      go : (n : ℕ) → part_length h x ≡ n → min (part_length h x) (length (drop (part_start ed h x) w)) ≡ part_length h x
      go zero e = omega arith
      go (suc n) e = omega (arith, length-drop (part_start ed h x) w, part_below ed h x d n (omega arith))

  pub part_word_lem : (x : Part) (j : ℕ) → j < part_length h x → get_or (part_words ed h w x) j 0 ≡ part_word ed h w x j
  unfolding part_words
  part_word_lem x j l = get_or-take (part_length h x) (drop (part_start ed h x) w) j 0 l ∙ get_or-drop (part_start ed h x) w j 0

  -- and its elements: element j of a part that has so many
  pub part_element_lem : (x : Part) (j n : ℕ) → part_length h x ≡ words_for h n → j < n → get_or (part_elements ed h w x) j (number_in h.spelling 0) ≡ part_element ed h w x j
  unfolding part_words
  part_element_lem x j n e l = read_from σ w (part_start ed h x) (part_length h x) j (omega (arith, e, count_below σ j n l))

  pub part_count : (x : Part) (n : ℕ) → PartDue h x → part_length h x ≡ words_for h n → length (part_elements ed h w x) ≡ n
  part_count x n d e = read_length σ n (part_words ed h w x) (part_length_lem x d ∙ e)

  -- the field's 0, as an entry that is not there
  entry_zero : (xs : List (Element h.spelling)) (j : ℕ) → get_or xs j (sheet_field h).𝟘 ≡ get_or xs j (number_in h.spelling 0)
  entry_zero xs j = ap (get_or xs j) (zero_in σ h.prime)

  -- f_0 is table 0; f_(i+1) is worked out at each point from the entry of table i + 1 there and from the pairs
  pub first_function : (j : ℕ) → j < (level_of h 0).size → (function_in ed h w 0).value j ≡ part_element ed h w (words (table 0)) j
  unfolding function_in table_function part_length count_of
  first_function j l = entry_zero (part_elements ed h w (words (table 0))) j ∙ part_element_lem (words (table 0)) j (level_of h 0).size refl l

  pub next_function_lem : (i j : ℕ) → j < (level_of h (suc i)).size → (function_in ed h w (suc i)).value j
      ≡ corrected_value (sheet_field h) (distinct (sheet_field h) (pairs_in ed h w i)) (part_element ed h w (combination i) 0) (point (sheet_field h) (sheet_root h) (level_of h (suc i)) j)
      (part_element ed h w (words (table (suc i))) j)
  unfolding function_in next_function pairs_in part_length count_of
  next_function_lem i j l =
      ap (corrected_value F (distinct F (pairs_in ed h w i)) (part_element ed h w (combination i) 0) (point F ω (level_of h (suc i)) j)) (entry_zero (part_elements ed h w (words (table (suc i)))) j ∙ part_element_lem (words (table (suc i))) j (level_of h (suc i)).size refl l)

  module _ (i : ℕ) (due : i < rounds_of h) where
    abbrev coins : List (Sample (Element h.spelling))
    coins = pair (part_elements ed h w (outs i)) (part_elements ed h w (words (replies (suc i))))

    outs_length : length (part_elements ed h w (outs i)) ≡ out_coin_count h
    unfolding part_length
    outs_length = part_count (outs i) (out_coin_count h) due refl

    same_length : length (part_elements ed h w (outs i)) ≡ length (part_elements ed h w (words (replies (suc i))))
    unfolding part_length count_of
    same_length = outs_length ∙ sym (part_count (words (replies (suc i))) (out_coin_count h) (omega arith, due) refl)

    coins_length : length coins ≡ out_coin_count h
    coins_length = pair_length _ _ same_length ∙ outs_length

    shifts_length : length (part_words ed h w (shifts i)) ≡ (level_of h i).repetitions
    unfolding part_length
    shifts_length = part_length_lem (shifts i) due

    abbrev sampled : ℕ → Sample (Element h.spelling)
    sampled y = record { point = shift_point (sheet_field h) (sheet_root h) (level_of h i) y; value = fold_at (sheet_field h) (sheet_root h) (level_of h i) (function_in ed h w i).value (part_element ed h w (fold i) 0) y }

    -- a round has s + t pairs: out coin j with reply j,
    pub pair_count : length (pairs_in ed h w i) ≡ out_coin_count h + (level_of h i).repetitions
    unfolding pairs_in answers
    pair_count = omega (arith, length-append coins (map sampled (part_words ed h w (shifts i))), coins_length, length-map (part_words ed h w (shifts i)) sampled, shifts_length)

    pub pair_of_out : (j : ℕ) → j < out_coin_count h → pair_in ed h w i j ≡ record { point = part_element ed h w (outs i) j; value = part_element ed h w (words (replies (suc i))) j }
    unfolding pairs_in answers part_length count_of
    pair_of_out j l =
        get_or-append coins (map sampled (part_words ed h w (shifts i))) _ j (omega (arith, coins_length)) ∙ pair_at (number_in σ 0) _ _ _ j same_length (omega (arith, outs_length))
        ∙ (λ x. record { point = part_element_lem (outs i) j (out_coin_count h) refl l x; value = part_element_lem (words (replies (suc i))) j (out_coin_count h) refl l x })

    -- and the shift point of shift index j with the fold of f_i there
    pub pair_of_shift : (j : ℕ) → j < (level_of h i).repetitions → pair_in ed h w i (out_coin_count h + j) ≡ sampled (part_word ed h w (shifts i) j)
    unfolding pairs_in answers part_length
    pair_of_shift j l =
        ap (λ (m : ℕ). get_or (coins ++ map sampled (part_words ed h w (shifts i))) (m + j) (record { point = number_in σ 0; value = number_in σ 0 })) (sym coins_length) ∙ get_or-append-add coins _ j _
        ∙ get_d_map sampled (part_words ed h w (shifts i)) 0 _ j (omega (arith, shifts_length)) ∙ ap sampled (part_word_lem (shifts i) j l)
