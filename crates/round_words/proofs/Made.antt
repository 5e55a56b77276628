-- The parts that the code makes from the words are those of the sheet, where the words say what the sheet does.
use Prim.Native.Nat.{ℕ, ◌+◌, ◌/◌}
use native.Mathlib.Omega.{arith}
use mathlib.Core.Path.{◌≡◌, refl, sym, ap, ◌∙◌}
use mathlib.Core.List.{List}
use lib.ListN.{take, drop}
use Rattle.definition.specs.Field.{spelling_of, word_count}
use Rattle.definition.specs.Sheet.{Sheet}
use Rattle.layouts.specs.Levels.{words_for}
use Rattle.layouts.specs.Spellings.{count_add}
use Rattle.level_words.specs.declared.State.{State}
use Rattle.level_words.specs.State.{coefficients_of, coins_at, current_repetitions, current_table, finals_of, next_degree, next_outs, next_replies, outs_at, shifts_at}

-- so many words by the field's number are as many by the sheet
pub by_sheet : (h : Sheet) (field : ℕ) → h.spelling ≡ spelling_of field → {v n m : ℕ} → v ≡ word_count (spelling_of field) n → n ≡ m → v ≡ words_for h m
by_sheet h field e ev en = ev ∙ (λ i. word_count (sym e i) (en i))

pub by_field : (h : Sheet) (field : ℕ) → h.spelling ≡ spelling_of field → (n : ℕ) {v : ℕ} → v ≡ words_for h n → v ≡ word_count (spelling_of field) n
by_field h field e n ev = ev ∙ ap (λ σ. word_count σ n) e

-- where the code cuts: the words before each part counted together
module _ (h : Sheet) (st : State) (field : ℕ) (e : h.spelling ≡ spelling_of field) where
  pub before_combination : {s v : ℕ} → s ≡ h.out_coins → v ≡ word_count (spelling_of field) (st.size / 2 + s + s) → st.at + v ≡ coins_at h st
  before_combination {s} {v} es ev =
      let σ = h.spelling in
      let z : v ≡ word_count σ (st.size / 2 + h.out_coins + h.out_coins) = ev ∙ (λ i. word_count (sym e i) (st.size / 2 + es i + es i)) in
      omega (arith, z, count_add σ (st.size / 2 + h.out_coins) h.out_coins, count_add σ (st.size / 2) h.out_coins)

  module _ {s many half : ℕ} (es : s ≡ h.out_coins) (em : many ≡ word_count (spelling_of field) s) (eh : half ≡ word_count (spelling_of field) (st.size / 2)) where
    pub outs_words : many ≡ words_for h h.out_coins
    outs_words = by_sheet h field e em es

    pub outs_at_lem : st.at + half ≡ outs_at h st
    outs_at_lem = ap (λ (n : ℕ). st.at + n) (by_sheet h field e eh refl)

    pub coins_at_lem : st.at + half + many + many ≡ coins_at h st
    coins_at_lem = λ i. outs_at_lem i + outs_words i + outs_words i

    pub shifts_at_lem : {two : ℕ} → two ≡ word_count (spelling_of field) 2 → st.at + half + many + many + two ≡ shifts_at h st
    shifts_at_lem e2 = λ i. coins_at_lem i + by_sheet h field e e2 refl i

module _ (h : Sheet) (w : List ℕ) (st : State) where
  pub table_part : {n : ℕ} → n ≡ words_for h st.size → take n (drop st.table w) ≡ current_table h w st
  unfolding current_table
  table_part en = λ i. take (en i) (drop st.table w)

  pub outs_part : {at n : ℕ} → at ≡ outs_at h st → n ≡ words_for h h.out_coins → take n (drop at w) ≡ next_outs h w st
  unfolding next_outs
  outs_part ea en = λ i. take (en i) (drop (ea i) w)

  pub replies_part : {at n : ℕ} → at ≡ outs_at h st → n ≡ words_for h h.out_coins → take n (drop (at + n) w) ≡ next_replies h w st
  unfolding next_replies
  replies_part ea en = λ i. take (en i) (drop (ea i + en i) w)

  pub coefficients_part : {n : ℕ} → n ≡ words_for h (next_degree h st) → take n (drop st.at w) ≡ coefficients_of h w st
  unfolding coefficients_of
  coefficients_part en = λ i. take (en i) (drop st.at w)

  pub finals_part : {n t : ℕ} → n ≡ words_for h (next_degree h st) → t ≡ current_repetitions h st → take t (drop (st.at + n) w) ≡ finals_of h w st
  unfolding finals_of
  finals_part en et = λ i. take (et i) (drop (st.at + en i) w)
