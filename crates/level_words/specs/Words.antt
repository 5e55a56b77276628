-- The words from a place on are the definition's rest of the transcript: a round and the rest after it, or the final coefficients and indices.
use Prim.Native.Nat.{ℕ, suc, ◌+◌, ◌/◌, ◌<◌}
use native.Mathlib.Omega.{arith}
use Rattle.std.specs.Prelude.{◌≡◌, get_or, take, drop}
use Rattle.std.proofs.Common.{sym, ◌∙◌, drop_of_length-le, drop-cons, drop-drop}
use Rattle.std.proofs.Math.Path.{ap}
use mathlib.Core.List.{List, [], ◌∷◌}
use Rattle.definition.specs.Field.{Element, Spelling, elements_in, number_in, spelling_of, word_count}
use Rattle.layouts.specs.Spellings.{count_add, count_zero, read_from}
use Rattle.layouts.specs.LawfulSheets.{Paired}
use Rattle.list_laws.specs.Lists.{drop_take}
use Rattle.layouts.specs.Levels.{element_at, rounds_of, words_for}
use Rattle.definition.specs.Layout.{later_count, read_rest, round_coins}
use Rattle.definition.specs.Sheet.{Level, Sheet, final_count, levels_from}
use Rattle.definition.specs.Transcript.{final, round}
use Rattle.level_words.specs.declared.State.{State}
use Rattle.level_words.specs.State.{coefficients_of, finals_of, fold_coin_at, shifts_at, current_level, later_levels_at, next_degree, next_fold, next_size, next_state, next_outs, next_replies, current_repetitions, rest_of, next_round, next_shifts, current_table}

-- a round read from word number `at` on: n words of the table, s of out coins, s of replies, those of two coins, t shift indices
module _ (σ : Spelling) (w : List ℕ) (at n s t : ℕ) where
  abbrev c : ℕ
  c = word_count σ 2

  first_drop : drop n (drop at w) ≡ drop (at + n) w
  first_drop = drop-drop n at w

  second_drop : drop s (drop n (drop at w)) ≡ drop (at + n + s) w
  second_drop = ap (drop s) first_drop ∙ drop-drop s (at + n) w

  pub third_drop : drop s (drop s (drop n (drop at w))) ≡ drop (at + n + s + s) w
  third_drop = ap (drop s) second_drop ∙ drop-drop s (at + n + s) w

  last_drop : drop (c + t) (drop s (drop s (drop n (drop at w)))) ≡ drop (at + n + s + s + c + t) w
  last_drop =
      let e : at + n + s + s + (c + t) ≡ at + n + s + s + c + t = omega arith in
      ap (drop (c + t)) third_drop ∙ drop-drop (c + t) (at + n + s + s) w ∙ ap (λ (m : ℕ). drop m w) e

  first_coin : get_or (elements_in σ (take (c + t) (drop s (drop s (drop n (drop at w)))))) 0 (number_in σ 0) ≡ element_at σ w (at + n + s + s)
  first_coin =
      let e : at + n + s + s + word_count σ 0 ≡ at + n + s + s = omega (arith, count_zero σ) in
      ap (λ (l : List ℕ). get_or (elements_in σ (take (c + t) l)) 0 (number_in σ 0)) third_drop
      ∙ read_from σ w (at + n + s + s) (c + t) 0 (omega (arith, count_zero σ, count_add σ 1 1)) ∙ ap (element_at σ w) e

  second_coin : get_or (elements_in σ (take (c + t) (drop s (drop s (drop n (drop at w)))))) 1 (number_in σ 0) ≡ element_at σ w (at + n + s + s + word_count σ 1)
  second_coin =
      ap (λ (l : List ℕ). get_or (elements_in σ (take (c + t) l)) 1 (number_in σ 0)) third_drop
      ∙ read_from σ w (at + n + s + s) (c + t) 1 (omega (arith, count_add σ 1 1))

  indices : drop c (take (c + t) (drop s (drop s (drop n (drop at w))))) ≡ take t (drop (at + n + s + s + c) w)
  indices =
      drop_take c t (drop s (drop s (drop n (drop at w))))
      ∙ ap (λ (l : List ℕ). take t (drop c l)) third_drop ∙ ap (take t) (drop-drop c (at + n + s + s) w)

module _ (h : Sheet) (st : State) where
  -- the levels after this one begin with that of the next round
  pub levels_next : Paired h → st.level < rounds_of h → later_levels_at h st ≡ current_level h (next_state h st) ∷ later_levels_at h (next_state h st)
  unfolding later_levels_at current_level next_state levels_from
  levels_next p more =
      let n = st.level + 1 in
      let number : suc n ≡ n + 1 = omega arith in
      (λ i. levels_from n (next_size st) (next_degree h st) (drop-cons h.folds n 0 (omega (arith, p.some)) i) (drop-cons h.repetitions n 0 (omega (arith, p.some, p.same)) i))
      ∙ (λ i. current_level h (next_state h st) ∷ levels_from (number i) (next_size st / 2) (next_degree h st / next_fold h st) (drop (number i) h.folds) (drop (number i) h.repetitions))

  pub levels_end : Paired h → st.level ≡ rounds_of h → later_levels_at h st ≡ []
  unfolding later_levels_at levels_from
  levels_end p e = rw (drop_of_length-le h.folds {i = st.level + 1} (omega (arith, p.some)))

module _ (h : Sheet) (w : List ℕ) (st : State) (p : Paired h) where
  round_read : read_rest h.spelling h.out_coins (current_level h st) (current_level h (next_state h st) ∷ later_levels_at h (next_state h st)) (drop st.at w) ≡ round (next_round h w st) (rest_of h w (next_state h st))
  unfolding read_rest next_round rest_of current_level next_state round_coins later_count next_outs next_replies next_shifts current_table
  round_read =
      let at = st.at in
      let σ = h.spelling in
      let n = words_for h (next_size st) in
      let s = words_for h h.out_coins in
      let t = current_repetitions h st in
      λ i. round (record {
        table = elements_in σ (take n (drop at w));
        coins = record {
          level = current_level h (next_state h st);
          outs = elements_in σ (take s (first_drop σ w at n s t i));
          combination = first_coin σ w at n s t i;
          fold = second_coin σ w at n s t i;
          shifts = indices σ w at n s t i;
        };
        replies = elements_in σ (take s (second_drop σ w at n s t i));
      }) (read_rest σ h.out_coins (current_level h (next_state h st)) (later_levels_at h (next_state h st)) (last_drop σ w at n s t i))

  pub rest_next : st.level < rounds_of h → rest_of h w st ≡ round (next_round h w st) (rest_of h w (next_state h st))
  unfolding rest_of
  rest_next more = ap (λ (ls : List Level). read_rest h.spelling h.out_coins (current_level h st) ls (drop st.at w)) (levels_next h st p more) ∙ round_read

  pub rest_end : st.level ≡ rounds_of h → rest_of h w st ≡ final (elements_in h.spelling (coefficients_of h w st)) (finals_of h w st)
  unfolding rest_of read_rest coefficients_of finals_of current_level final_count
  rest_end e =
      ap (λ (ls : List Level). read_rest h.spelling h.out_coins (current_level h st) ls (drop st.at w)) (levels_end h st p e)
      ∙ ap (λ (l : List ℕ). final (elements_in h.spelling (take (words_for h (next_degree h st)) (drop st.at w))) (take (current_repetitions h st) l)) (drop-drop (words_for h (next_degree h st)) st.at w)

-- the words up to the shift indices, or up to the fold coin, counted together
pub before_shifts : (h : Sheet) (st : State) (field : ℕ) {s v : ℕ} → h.spelling ≡ spelling_of field → s ≡ h.out_coins → v ≡ word_count (spelling_of field) (st.size / 2 + s + s + 2) →
    st.at + v ≡ shifts_at h st
before_shifts h st field {s} {v} e es ev =
    let σ = h.spelling in
    let z : v ≡ word_count σ (st.size / 2 + h.out_coins + h.out_coins + 2) = ev ∙ (λ i. word_count (sym e i) (st.size / 2 + es i + es i + 2)) in
    omega (arith, z, count_add σ (st.size / 2 + h.out_coins + h.out_coins) 2, count_add σ (st.size / 2 + h.out_coins) h.out_coins, count_add σ (st.size / 2) h.out_coins)

pub before_coin : (h : Sheet) (st : State) (field : ℕ) {s v : ℕ} → h.spelling ≡ spelling_of field → s ≡ h.out_coins → v ≡ word_count (spelling_of field) (st.size / 2 + s + s + 1) →
    st.at + v ≡ fold_coin_at h st
before_coin h st field {s} {v} e es ev =
    let σ = h.spelling in
    let z : v ≡ word_count σ (st.size / 2 + h.out_coins + h.out_coins + 1) = ev ∙ (λ i. word_count (sym e i) (st.size / 2 + es i + es i + 1)) in
    omega (arith, z, count_add σ (st.size / 2 + h.out_coins + h.out_coins) 1, count_add σ (st.size / 2 + h.out_coins) h.out_coins, count_add σ (st.size / 2) h.out_coins)

-- the shift indices of the next round, by the sheet's words
pub shifts_part : (h : Sheet) (w : List ℕ) (st : State) {at t : ℕ} → at ≡ shifts_at h st → t ≡ current_repetitions h st → take t (drop at w) ≡ next_shifts h w st
unfolding next_shifts
shifts_part h w st ea et = λ i. take (et i) (drop (ea i) w)
