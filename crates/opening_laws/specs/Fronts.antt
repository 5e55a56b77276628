-- A TRANSCRIPT IS READ FROM THE WORDS DUE ALONE; and a stream with as many words has room for its tables.
use Rattle.std.specs.Prelude.{ℕ, ◌+◌, ◌≤◌, ◌≡◌, get_or, drop, replicate}
use Rattle.std.proofs.Common.{arith, sym, ap, ◌∙◌}
use mathlib.Core.List.{List, [], ◌∷◌, ◌++◌}
use Rattle.std.proofs.Math.Path.{ap₂}
use Rattle.std.proofs.Math.ListN.{length, take, length-append}
use Rattle.std.proofs.lemmas.List.{length-replicate}
use Rattle.definition.specs.Field.{Spelling, number_in, word_count, elements_in}
use Rattle.definition.specs.Sheet.{Sheet, Level, first_level, later_levels, final_count}
use Rattle.definition.specs.Transcript.{final, round}
use Rattle.definition.specs.Layout.{layout, later_count, rest_layout, round_coins, round_layout, read_rest, read_transcript}
use Rattle.list_laws.specs.Lists.{same_fewer, same_part}
use Rattle.layouts.proofs.LayoutFacts.{final_length, round_length}
use Rattle.layouts.specs.Levels.{element_at}
use Rattle.layouts.specs.Spellings.{at_take, count_zero, read_at_lem}
use Rattle.openings.specs.Openings.{entry_words, beside_table, table_words}
use Rattle.opening_laws.specs.Swaps.{need, rest_need}

-- the words of a rest, its tables' among them
rest_needs : (σ : Spelling) (s : ℕ) (b : Level) (ls : List Level) → rest_need (λ l. word_count σ l.size) σ s b ls ≤ length (rest_layout σ s b ls)
unfolding rest_need rest_layout beside_table
rest_needs σ s b [] = omega arith
rest_needs σ s b (l ∷ ls) = omega (arith, length-append (round_layout σ s b l) (rest_layout σ s l ls), round_length σ s b l, rest_needs σ s l ls)

pub layout_needs : (h : Sheet) → need (table_words h) h ≤ length (layout h)
unfolding need table_words entry_words layout first_level
layout_needs h =
    let σ = h.spelling in
    let rest = rest_layout σ h.out_coins (first_level h) (later_levels h) in
    let a : length (layout h) ≡ word_count σ h.size + (word_count σ 1 + length rest) =
    length-append (replicate (word_count σ h.size) _) _ ∙ ap₂ ◌+◌ (length-replicate (word_count σ h.size) _)
    (length-append (replicate (word_count σ 1) _) rest ∙ ap (λ (n : ℕ). n + length rest) (length-replicate (word_count σ 1) _)) in
    omega (arith, a, rest_needs σ h.out_coins (first_level h) (later_levels h))

-- two lists that agree on the words due
module _ (σ : Spelling) where
  rest_front : (s : ℕ) (b : Level) (ls : List Level) (n : ℕ) (v w : List ℕ) → length (rest_layout σ s b ls) ≤ n → take n v ≡ take n w → read_rest σ s b ls v ≡ read_rest σ s b ls w
  unfolding read_rest rest_layout
  rest_front s b [] n v w h e =
      let f = word_count σ (final_count b) in
      let k = final_length σ s b in
      ap₂ final (ap (elements_in σ) (same_fewer f n v w (omega (arith, k)) e)) (same_part f b.repetitions n v w (omega (arith, k)) e)
  rest_front s b (l ∷ ls) n v w h e =
      let t = word_count σ l.size in
      let o = word_count σ s in
      let c = later_count σ b in
      let m = length (rest_layout σ s l ls) in
      let k : length (round_layout σ s b l ++ rest_layout σ s l ls) ≡ length (round_layout σ s b l) + m = length-append (round_layout σ s b l) (rest_layout σ s l ls) in
      let r = round_length σ s b l in
      let e₁ : take (o + (o + (c + m))) (drop t v) ≡ take (o + (o + (c + m))) (drop t w) = same_part t (o + (o + (c + m))) n v w (omega (arith, k, r)) e in
      let e₂ : take (o + (c + m)) (drop o (drop t v)) ≡ take (o + (c + m)) (drop o (drop t w)) = same_part o (o + (c + m)) (o + (o + (c + m))) (drop t v) (drop t w) (omega arith) e₁ in
      let e₃ : take (c + m) (drop o (drop o (drop t v))) ≡ take (c + m) (drop o (drop o (drop t w))) = same_part o (c + m) (o + (c + m)) (drop o (drop t v)) (drop o (drop t w)) (omega arith) e₂ in
      let e₄ : take m (drop c (drop o (drop o (drop t v)))) ≡ take m (drop c (drop o (drop o (drop t w)))) =
      same_part c m (c + m) (drop o (drop o (drop t v))) (drop o (drop o (drop t w))) (omega arith) e₃ in
      let a₀ = same_fewer t n v w (omega (arith, k, r)) e in
      let a₁ = same_fewer o (o + (o + (c + m))) (drop t v) (drop t w) (omega arith) e₁ in
      let a₂ = same_fewer o (o + (c + m)) (drop o (drop t v)) (drop o (drop t w)) (omega arith) e₂ in
      let a₃ = same_fewer c (c + m) (drop o (drop o (drop t v))) (drop o (drop o (drop t w))) (omega arith) e₃ in
      λ i. round (record { table = elements_in σ (a₀ i); coins = round_coins σ l (a₁ i) (a₃ i); replies = elements_in σ (a₂ i) })
      (rest_front s l ls m (drop c (drop o (drop o (drop t v)))) (drop c (drop o (drop o (drop t w)))) (omega arith) e₄ i)

pub front_read : (h : Sheet) (v w : List ℕ) → take (length (layout h)) v ≡ take (length (layout h)) w → read_transcript h.spelling h v ≡ read_transcript h.spelling h w
unfolding read_transcript layout
front_read h v w e =
    let σ = h.spelling in
    let t = word_count σ h.size in
    let o = word_count σ 1 in
    let rest = rest_layout σ h.out_coins (first_level h) (later_levels h) in
    let m = length rest in
    let a : length (layout h) ≡ t + (o + m) =
    length-append (replicate t _) _ ∙ ap₂ ◌+◌ (length-replicate t _) (length-append (replicate o _) rest ∙ ap (λ (n : ℕ). n + m) (length-replicate o _)) in
    let e₁ : take (o + m) (drop t v) ≡ take (o + m) (drop t w) = same_part t (o + m) (length (layout h)) v w (omega (arith, a)) e in
    let e₂ : take m (drop o (drop t v)) ≡ take m (drop o (drop t w)) = same_part o m (o + m) (drop t v) (drop t w) (omega arith) e₁ in
    let at : (x : List ℕ) → get_or (elements_in σ x) 0 (number_in σ 0) ≡ element_at σ (take o x) (word_count σ 0) =
    λ x. read_at_lem σ x 0 ∙ sym (at_take σ x o (word_count σ 0) (omega (arith, count_zero σ))) in
    let f : get_or (elements_in σ (drop t v)) 0 (number_in σ 0) ≡ get_or (elements_in σ (drop t w)) 0 (number_in σ 0) =
    at (drop t v) ∙ ap (λ (x : List ℕ). element_at σ x (word_count σ 0)) (same_fewer o (o + m) (drop t v) (drop t w) (omega arith) e₁) ∙ sym (at (drop t w)) in
    let g = rest_front σ h.out_coins (first_level h) (later_levels h) m (drop o (drop t v)) (drop o (drop t w)) (omega arith) e₂ in
    λ i. record { table = elements_in σ (same_fewer t (length (layout h)) v w (omega (arith, a)) e i); fold = f i; rest = g i }
