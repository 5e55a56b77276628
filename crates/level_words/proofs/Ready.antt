-- The coins of a round, or some of the final ones, are there to be counted; and what their count adds to the reads.
use Prim.Native.Nat.{ℕ, ◌+◌, ◌*◌, ◌/◌, ◌≤◌, ◌<◌}
use native.Mathlib.Omega.{arith}
use mathlib.Core.Path.{◌≡◌, sym, ap, ◌∙◌, subst}
use mathlib.Core.List.{List}
use lib.Dec.{eqb}
use lib.ListN.{length, take, drop}
use lib.Seq.{take-take}
use Rattle.list_laws.specs.All.{All, all_map, all_places, all_take}
use Rattle.layouts.specs.Levels.{words_for}
use Rattle.layouts.specs.Spellings.{count_add, count_least}
use Rattle.definition.specs.Field.{spelling_of, word_count}
use Rattle.definition.specs.Lists.{different}
use Rattle.definition.specs.Sheet.{Edition, Sheet}
use Rattle.fractions.specs.Values.{Below}
use Rattle.level_words.specs.declared.State.{State}
use Rattle.level_words.specs.State.{finals_of, fold_coin_at, shifts_at, current_fold, next_degree, reads_after, current_repetitions, next_shifts}
use Rattle.level_words.specs.Inside.{FinalInside, RoundInside}
use Rattle.level_words.specs.Words.{shifts_part}
use Rattle.level_words.specs.Reads.{reads_most}

few_below : {n : ℕ} (js : List ℕ) → n ≤ 2048 → Below n js → All (λ j. j < 2048) js
few_below {n} js most below = all_map {Q = λ j. j < 2048} js (all_places (λ j. j < n) js 0 below) (λ j l. omega arith)

module _ (ed : Edition) (h : Sheet) (w : List ℕ) (st : State) where
  pub shifts_counted : RoundInside ed h w st → {at t : ℕ} → at ≡ shifts_at h st → t ≡ current_repetitions h st →
      (at + t ≤ length w) × ((t ≤ 48) × All (λ j. j < 2048) (take t (drop at w)))
  shifts_counted i ea et = (
    omega (arith, ea, et, i.there),
    (omega (arith, et, i.numbers.few), subst (All (λ j. j < 2048)) (sym (shifts_part h w st ea et)) (few_below (next_shifts h w st) i.numbers.shifts i.below)),
  )

  pub shifts_read : (reads : ℕ) {at t r : ℕ} → at ≡ shifts_at h st → t ≡ current_repetitions h st →
      r ≡ reads_after h st reads (take t (drop at w)) → r ≡ reads_after h st reads (next_shifts h w st)
  shifts_read reads ea et e = e ∙ ap (reads_after h st reads) (shifts_part h w st ea et)

  -- the words of the next round are there, and so are no more elements
  pub round_small : RoundInside ed h w st → (st.size / 2 ≤ length w) × (shifts_at h st ≤ length w) × (fold_coin_at h st + words_for h 1 ≤ length w)
  round_small i = omega (arith, i.there, count_least h.spelling (st.size / 2), count_add h.spelling 1 1)

  module _ (i : FinalInside ed h w st) (count : ℕ) {k : ℕ} (ek : k ≡ current_fold h st) (few : count ≤ current_repetitions h st) where
    pub finals_small : st.degree / k ≤ length w
    finals_small = let e = ap (λ (n : ℕ). st.degree / n) ek in omega (arith, e, i.there, count_least h.spelling (next_degree h st))

    module _ (field : ℕ) {v : ℕ} (es : h.spelling ≡ spelling_of field) (ev : v ≡ word_count (spelling_of field) (st.degree / k)) where
      in_words : v ≡ words_for h (next_degree h st)
      in_words = ev ∙ (λ j. word_count (sym es j) (st.degree / ek j))

      finals_some : take count (drop (st.at + v) w) ≡ take count (finals_of h w st)
      unfolding finals_of
      finals_some =
          ap (λ (n : ℕ). take count (drop (st.at + n) w)) in_words ∙ sym (take-take count (current_repetitions h st) (drop (st.at + words_for h (next_degree h st)) w) few)

      pub finals_read : (reads : ℕ) {r : ℕ} → r ≡ reads_after h st reads (take count (drop (st.at + v) w)) → r ≡ reads_after h st reads (take count (finals_of h w st))
      finals_read reads e = e ∙ ap (reads_after h st reads) finals_some

      pub finals_there : st.at + v + count ≤ length w
      finals_there = omega (arith, in_words, few, i.there)

      pub finals_counted : (st.at + v + count ≤ length w) × ((count ≤ 48) × All (λ j. j < 2048) (take count (drop (st.at + v) w)))
      finals_counted = (
        finals_there,
        (
          omega (arith, few, i.numbers.few),
          subst (All (λ j. j < 2048)) (sym finals_some) (all_take (λ j. j < 2048) count (finals_of h w st) (few_below (finals_of h w st) i.numbers.shifts i.below)),
        ),
      )

pub product_most : (js : List ℕ) {n k fold : ℕ} → n ≡ length (different eqb js) → k ≡ fold → length js ≤ 48 → fold ≤ 16 → n * k ≤ 768
product_most js {n} {k} {fold} en ek few small = let e : n * k ≡ length (different eqb js) * fold = λ i. en i * ek i in omega (arith, e, reads_most js fold few small)

pub after_is : (h : Sheet) (st : State) (reads : ℕ) (js : List ℕ) {js' : List ℕ} {n k : ℕ} → n ≡ length (different eqb js) → js ≡ js' → k ≡ current_fold h st → reads + n * k ≡ reads_after h st reads js'
unfolding reads_after
after_is h st reads js en ej ek = λ i. reads + (en ∙ ap (λ (l : List ℕ). length (different eqb l)) ej) i * ek i
