-- What a call requires and what it gives, over plain numbers and lists, where the parts of the words are handed on.
use Prim.Native.Nat.{ℕ, ◌+◌, ◌/◌, ◌≤◌}
use native.Mathlib.Omega.{arith}
use mathlib.Core.Path.{◌≡◌, refl, sym, ap, ◌∙◌, subst}
use mathlib.Core.List.{List}
use mathlib.Core.Option.{Option}
use lib.ListN.{length, get_or, drop}
use Rattle.list_laws.specs.Lists.{part_length_lem}
use Rattle.definition.specs.Field.{elements_in, spelling_of}
use Rattle.definition.specs.Polynomial.{pair}
use Rattle.definition.specs.Sheet.{Edition, Sheet, sheet_of}
use Rattle.algebra.specs.Different.{Apart}
use Rattle.layouts.specs.Levels.{sheet_field, words_for}
use Rattle.layouts.specs.Spellings.{count_add, count_least, read_length}
use Rattle.spelling.specs.ByField.{elements_at, field_at, words_at}
use Rattle.elements.specs.Meaning.{value_at, value_in}
use Rattle.quartic.specs.declared.Four.{Four}
use Rattle.lists.specs.Correcting.{CorrectingOver}
use Rattle.std.specs.Prelude.{Some, None}
use Rattle.samples.specs.Samples.{Gathered, Room, kept}
use Rattle.fractions.specs.declared.Oracle.{Oracle}
use Rattle.fractions.specs.Values.{Below, Clear, Fits}
use Rattle.rounds.specs.RoundLaws.{Answered, Compared}
use Rattle.level_words.specs.declared.State.{State}
use Rattle.level_words.specs.State.{coefficients_of, coins_at, current_fold, current_repetitions, current_table, finals_of, next_combination, next_degree, next_outs, next_replies, next_shifts, outs_at, replies_at, shifts_at}
use Rattle.level_words.specs.Inside.{FinalInside, RoundInside}
use Rattle.round_words.specs.Handed.{Differing, NextCorrecting, NextSamples, TableInside}
use Rattle.round_words.proofs.Made.{by_field, by_sheet}

-- ---- parts of the words, by another name: what holds by the field's number holds in the sheet's field

module _ (ed : Edition) (w pw ac vg : List ℕ) (st : State) (r : Four) (oracle : Oracle) (table : List ℕ) (et : table ≡ current_table (sheet_of ed w) w st) {k : ℕ} (ek : k ≡ current_fold (sheet_of ed w) st) where
  pub distinct_parts : (shifts outs replies : List ℕ) (g : Gathered) (px py : List ℕ) → shifts ≡ next_shifts (sheet_of ed w) w st → outs ≡ next_outs (sheet_of ed w) w st → replies ≡ next_replies (sheet_of ed w) w st →
      Answered (get_or w 0 0) pw table ac vg oracle k (value_at (get_or w 0 0) r) shifts outs replies (kept g (elements_at (get_or w 0 0) px) (elements_at (get_or w 0 0) py)) →
      NextSamples (sheet_of ed w) w pw ac vg st (value_in (sheet_of ed w).spelling r) oracle (kept g (elements_in (sheet_of ed w).spelling px) (elements_in (sheet_of ed w).spelling py))
  unfolding sheet_of
  distinct_parts shifts outs replies g px py es eo er a =
      let h = sheet_of ed w in
      let field = get_or w 0 0 in
      let v = kept g (elements_at field px) (elements_at field py) in
      subst (λ (t : List ℕ). Answered field pw t ac vg oracle (current_fold h st) (value_at field r) (next_shifts h w st) (next_outs h w st) (next_replies h w st) v) et
      (subst (λ (n : ℕ). Answered field pw table ac vg oracle n (value_at field r) (next_shifts h w st) (next_outs h w st) (next_replies h w st) v) ek
      (subst (λ (t : List ℕ). Answered field pw table ac vg oracle k (value_at field r) (next_shifts h w st) (next_outs h w st) t v) er
      (subst (λ (t : List ℕ). Answered field pw table ac vg oracle k (value_at field r) (next_shifts h w st) t replies v) eo
      (subst (λ (t : List ℕ). Answered field pw table ac vg oracle k (value_at field r) t outs replies v) es a))))

  pub differing_parts : (coefficients finals : List ℕ) {v : Option ℕ} → coefficients ≡ coefficients_of (sheet_of ed w) w st → finals ≡ finals_of (sheet_of ed w) w st →
      Compared (get_or w 0 0) pw table ac vg oracle k (value_at (get_or w 0 0) r) coefficients finals v → Differing (sheet_of ed w) w pw ac vg st (value_in (sheet_of ed w).spelling r) oracle v
  unfolding sheet_of
  differing_parts coefficients finals {v} ec ef a =
      let h = sheet_of ed w in
      let field = get_or w 0 0 in
      subst (λ (t : List ℕ). Compared field pw t ac vg oracle (current_fold h st) (value_at field r) (coefficients_of h w st) (finals_of h w st) v) et
      (subst (λ (n : ℕ). Compared field pw table ac vg oracle n (value_at field r) (coefficients_of h w st) (finals_of h w st) v) ek
      (subst (λ (t : List ℕ). Compared field pw table ac vg oracle k (value_at field r) t (finals_of h w st) v) ec
      (subst (λ (t : List ℕ). Compared field pw table ac vg oracle k (value_at field r) coefficients t v) ef a)))

-- the samples and the combination coin
module _ (ed : Edition) (w : List ℕ) (st : State) (px py : List ℕ) (from : ℕ) where
  pub apart_part : Apart (sheet_field (sheet_of ed w)) (drop from (elements_in (sheet_of ed w).spelling px)) → Apart (field_at (get_or w 0 0)) (drop from (elements_at (get_or w 0 0) px))
  unfolding sheet_of
  apart_part a = a

  pub corrected_part : (n : ℕ) (pa pv : List ℕ) (c : Four) → value_in (sheet_of ed w).spelling c ≡ next_combination (sheet_of ed w) w st →
      CorrectingOver (field_at (get_or w 0 0)) (pair (drop from (elements_at (get_or w 0 0) px)) (drop from (elements_at (get_or w 0 0) py))) (value_at (get_or w 0 0) c) n (elements_at (get_or w 0 0) pa) (elements_at (get_or w 0 0) pv) →
      NextCorrecting (sheet_of ed w) w st (pair (drop from (elements_in (sheet_of ed w).spelling px)) (drop from (elements_in (sheet_of ed w).spelling py))) n pa pv
  unfolding sheet_of
  corrected_part n pa pv c ec given =
      let field = get_or w 0 0 in
      subst (λ y. CorrectingOver (field_at field) (pair (drop from (elements_at field px)) (drop from (elements_at field py))) y n (elements_at field pa) (elements_at field pv)) ec given

-- ---- what the calls require

-- no more elements than words, which are there
pub table_small : (h : Sheet) (w : List ℕ) {points answers factors : ℕ} (st : State) (oracle : Oracle) → TableInside h w points answers factors st oracle → st.size ≤ length w
table_small h w st oracle ok = omega (arith, ok.table, count_least h.spelling st.size)

pub combination_there : (ed : Edition) (h : Sheet) (w : List ℕ) (st : State) → RoundInside ed h w st → (st.size / 2 ≤ length w) × (coins_at h st + words_at (get_or w 0 0) 1 ≤ length w)
combination_there ed h w st i =
    let one = by_field h (get_or w 0 0) i.numbers.spelling 1 refl in
    omega (arith, i.there, one, count_least h.spelling (st.size / 2), count_add h.spelling 1 1)

pub final_words : (ed : Edition) (h : Sheet) (w : List ℕ) (st : State) → FinalInside ed h w st → {k v : ℕ} → k ≡ current_fold h st → v ≡ words_at (get_or w 0 0) (st.degree / k) →
    v ≡ words_for h (next_degree h st)
final_words ed h w st i ek ev = by_sheet h (get_or w 0 0) i.numbers.spelling ev (ap (λ (n : ℕ). st.degree / n) ek)

pub final_small : (ed : Edition) (h : Sheet) (w : List ℕ) (st : State) → FinalInside ed h w st → {k : ℕ} → k ≡ current_fold h st → st.degree / k ≤ length w
final_small ed h w st i ek = omega (arith, ap (λ (n : ℕ). st.degree / n) ek, i.there, count_least h.spelling (next_degree h st))

module _ (ed : Edition) (h : Sheet) (w : List ℕ) {points answers factors : ℕ} (st : State) (oracle : Oracle) (ok : TableInside h w points answers factors st oracle)
    (spelt : h.spelling ≡ spelling_of (get_or w 0 0)) (table : List ℕ) (et : table ≡ current_table h w st) {k : ℕ} (ek : k ≡ current_fold h st) where
  abbrev field : ℕ
  field = get_or w 0 0

  table_size : length (elements_at (get_or w 0 0) table) ≡ st.size
  unfolding current_table
  table_size = read_length (spelling_of field) st.size table (by_field h field spelt st.size (ap length et ∙ part_length_lem st.table (words_for h st.size) w ok.table))

  pub fits_table : Fits points (length (elements_at (get_or w 0 0) table)) oracle k
  fits_table = subst (Fits points (length (elements_at field table)) oracle) (sym ek) (subst (λ (n : ℕ). Fits points n oracle (current_fold h st)) (sym table_size) ok.fits)

  -- the places for coefficients, and what is divided by, by the table's length
  pub clear_table : (pw vg : List ℕ) → Clear (get_or w 0 0) pw st.size vg oracle →
      (answers ≡ words_at (get_or w 0 0) 66) × ((factors ≡ words_at (get_or w 0 0) 132) × Clear (get_or w 0 0) pw (length (elements_at (get_or w 0 0) table)) vg oracle)
  clear_table pw vg clear = (
    by_field h field spelt 66 ok.in_answers,
    (by_field h field spelt 132 ok.in_factors, subst (λ (n : ℕ). Clear field pw n vg oracle) (sym table_size) clear),
  )

  pub answer_ready : RoundInside ed h w st → (shifts outs replies px py : List ℕ) → shifts ≡ next_shifts h w st → outs ≡ next_outs h w st → replies ≡ next_replies h w st →
      length px ≡ words_for h 50 → length py ≡ words_for h 50 →
      (Below oracle.step shifts × (length shifts ≤ 48))
      × (((length py ≡ length px)
      × ((length (elements_at (get_or w 0 0) replies) ≡ length (elements_at (get_or w 0 0) outs)) × (length (elements_at (get_or w 0 0) outs) + length shifts ≤ length (elements_at (get_or w 0 0) px))))
      × (length (elements_at (get_or w 0 0) px) ≤ 50))
  unfolding next_shifts next_outs next_replies
  answer_ready i shifts outs replies px py es eo er lx ly =
      let s = words_for h h.out_coins in
      let σ = spelling_of field in
      let there = i.there in
      let ns = ap length es ∙ part_length_lem (shifts_at h st) (current_repetitions h st) w there in
      let no = read_length σ h.out_coins outs (by_field h field spelt h.out_coins (ap length eo ∙ part_length_lem (outs_at h st) s w (omega (arith, there)))) in
      let nr = read_length σ h.out_coins replies (by_field h field spelt h.out_coins (ap length er ∙ part_length_lem (replies_at h st) s w (omega (arith, there)))) in
      let nx = read_length σ 50 px (by_field h field spelt 50 lx) in (
        (
          subst (λ (n : ℕ). Below n shifts) (sym ok.step) (subst (λ (js : List ℕ). Below (st.size / current_fold h st) js) (sym es) i.below),
          omega (arith, ns, i.numbers.few),
        ),
        ((ly ∙ sym lx, (nr ∙ sym no, omega (arith, ns, no, nx, i.numbers.few, ok.few))), omega (arith, nx)),
      )

  pub final_ready : FinalInside ed h w st → (finals : List ℕ) → finals ≡ finals_of h w st → Below oracle.step finals × (length finals ≤ 48)
  unfolding finals_of
  final_ready i finals ef =
      let nf = ap length ef ∙ part_length_lem (st.at + words_for h (next_degree h st)) (current_repetitions h st) w i.there in (
        subst (λ (n : ℕ). Below n finals) (sym ok.step) (subst (λ (js : List ℕ). Below (st.size / current_fold h st) js) (sym ef) i.below),
        omega (arith, nf, i.numbers.few),
      )

-- ---- room for the samples

pub room_most : (n t : ℕ) (g : Gathered) → n ≡ 50 → t ≤ 50 → Room n t g → Room 50 50 g
room_most n t None e h r = tt
room_most n t (Some k) e h r = (omega arith, omega arith)
