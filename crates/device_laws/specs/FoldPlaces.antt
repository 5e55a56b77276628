-- The places for the words of the folds: how many elements they hold, and one more written after them.
use Rattle.std.specs.Prelude.{ℕ, suc, ◌+◌, ◌≤◌, ◌≡◌, refl, take, drop}
use Rattle.std.proofs.Common.{arith, ◌∙◌, length-append, length-drop}
use mathlib.Core.List.{List, [], ◌∷◌, ◌++◌, append_assoc}
use Rattle.std.proofs.Math.Path.{sym, ap}
use Rattle.std.proofs.Math.ListN.{length}
use Rattle.std.proofs.Math.Seq.{length-take-le, take-append_seam}
use Rattle.device_definition.specs.Device.{Device, folds_of, overwritten, treated_one}
use Rattle.definition.specs.Field.{Element, Spelling, elements_in, four, one, quads, word_count, words_of}
use Rattle.layouts.specs.Spellings.{count_add, count_mono, count_most, read_length, read_written, words_append, words_length, words_read}

-- no coin treated, no fold
pub none_read : (σ : Spelling) (l : List ℕ) → elements_in σ (take (word_count σ 0) l) ≡ []
unfolding elements_in word_count quads
none_read one l = refl
none_read four l = refl

pub none_kept : (σ : Spelling) (d : Device) → d.treated ≡ 0 → folds_of σ d ≡ []
unfolding folds_of
none_kept σ d e = ap (λ (n : ℕ). elements_in σ (take (word_count σ n) d.folds)) e ∙ none_read σ d.folds

-- 1,152 words are places for 288 elements of either spelling
pub room_for : (σ : Spelling) (n : ℕ) → n ≤ 288 → word_count σ n ≤ 1152
room_for σ n l = omega (arith, count_mono σ n 288 l, count_most σ 288)

pub length_overwritten : (l : List ℕ) (at : ℕ) (words : List ℕ) → at + length words ≤ length l → length (overwritten l at words) ≡ length l
unfolding overwritten
length_overwritten l at words u =
    omega (
      arith,
      length-append (take at l) (words ++ drop (at + length words) l),
      length-append words (drop (at + length words) l),
      length-drop (at + length words) l,
      length-take-le at l (omega (arith, u)),
    )

-- the words written are the last of those in use
take_overwritten : (l : List ℕ) (at : ℕ) (words : List ℕ) (n : ℕ) → n ≡ at + length words → n ≤ length l → take n (overwritten l at words) ≡ take at l ++ words
unfolding overwritten
take_overwritten l at words n e u =
    let front = length-take-le at l (omega (arith, e, u)) in
    let m : n ≡ length (take at l ++ words) = omega (arith, length-append (take at l) words, front, e) in
    ap (take n) (sym (append_assoc (take at l) words (drop (at + length words) l)))
    ∙ ap (λ (k : ℕ). take k ((take at l ++ words) ++ drop (at + length words) l)) m ∙ take-append_seam (take at l ++ words) (drop (at + length words) l)

module _ (σ : Spelling) (d : Device) where
  pub folds_count : word_count σ d.treated ≤ length d.folds → length (folds_of σ d) ≡ d.treated
  unfolding folds_of
  folds_count u = read_length σ d.treated (take (word_count σ d.treated) d.folds) (length-take-le (word_count σ d.treated) d.folds u)

  -- ONE MORE is written after those that are there
  module _ (v : Element σ) (u : word_count σ (suc d.treated) ≤ length d.folds) where
    abbrev n : ℕ
    n = d.treated

    abbrev front : List ℕ
    front = take (word_count σ d.treated) d.folds

    next_count : word_count σ (suc n) ≡ word_count σ n + length (words_of σ (v ∷ []))
    next_count = let e : suc n ≡ n + 1 = omega arith in ap (word_count σ) e ∙ count_add σ n 1 ∙ ap (λ (m : ℕ). word_count σ n + m) (sym (words_length σ (v ∷ [])))

    pub room_kept : length (treated_one σ d v).folds ≡ length d.folds
    unfolding treated_one
    room_kept = length_overwritten d.folds (word_count σ n) (words_of σ (v ∷ [])) (omega (arith, u, next_count))

    pub one_more : folds_of σ (treated_one σ d v) ≡ folds_of σ d ++ (v ∷ [])
    unfolding folds_of treated_one
    one_more =
        let long : length front ≡ word_count σ n = length-take-le (word_count σ n) d.folds (omega (arith, u, next_count)) in
        ap (elements_in σ) (take_overwritten d.folds (word_count σ n) (words_of σ (v ∷ [])) (word_count σ (suc n)) next_count u
        ∙ ap (λ (l : List ℕ). l ++ words_of σ (v ∷ [])) (sym (words_read σ n front long)) ∙ sym (words_append σ (elements_in σ front) (v ∷ [])))
        ∙ read_written σ (elements_in σ front ++ (v ∷ []))
