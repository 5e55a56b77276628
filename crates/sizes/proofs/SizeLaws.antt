-- The loops that count the words and the coins due, a turn at a time. Assumes nothing.
use Prim.Native.Nat.{ℕ, zero, suc, ◌+◌, ◌-◌, ◌*◌, ◌/◌, ◌^◌, ◌≤◌, ◌<◌}
use native.Mathlib.Nat.{mul-suc, mul-zero, sub-zero}
use native.Mathlib.Numerals.{add-one}
use native.Mathlib.Omega.{arith}
use mathlib.Core.List.{List}
use mathlib.Core.Path.{◌≡◌, sym, ap, subst, ◌∙◌}
use lib.Count.{ones}
use lib.ListN.{length, get_or, take}
use lib.Pow.{pow_pos}
use lib.Seq.{take-take}
use Rattle.layouts.proofs.DueSizes.{words_most}
use Rattle.layouts.proofs.Lawful.{lawful, rounds_word, times_word}
use Rattle.layouts.specs.LawfulSheets.{Lawful}
use Rattle.layouts.proofs.LayoutByRound.{coins_due_lem, starts_grow, words_due_lem}
use Rattle.layouts.specs.LevelSizes.{quotient}
use Rattle.layouts.specs.Levels.{coin_count, coins_before, level_of, round_start, round_count, rounds_of}
use Rattle.layouts.proofs.LevelsByNumber.{folded, undivided}
use Rattle.layouts.proofs.PlainSheet.{sheet_plain}
use Rattle.layouts.proofs.SheetLevels.{sized}
use Rattle.layouts.specs.SheetRules.{long_enough, pow_most}
use Rattle.layouts.specs.Spellings.{count_add, count_least, count_most}
use Rattle.definition.specs.Block.{block_count}
use Rattle.definition.specs.Field.{Spelling, spelling_of, word_count}
use Rattle.definition.specs.Layout.{coin_kinds, later_count, layout, words_due}
use Rattle.definition.specs.Lists.{product_of}
use Rattle.definition.specs.Reading.{sheet_test}
use Rattle.definition.specs.Sheet.{Edition, Sheet, edition1, edition2, final_count, fold_words, sheet_length, sheet_of}
use Rattle.definition.specs.Verdict.{accepted}
use Rattle.sizes.specs.OneBit.{power_ones}
use Rattle.sizes.specs.Degrees.{DegreeAt}
use Rattle.sizes.specs.Words.{round_word_count}
use Rattle.sizes.proofs.DegreeLaws.{degree_first}

factor_most : (x y n : ℕ) → x * y ≡ n → 0 < n → x ≤ n
factor_most x zero n e h = absurd (omega (arith, mul-zero x))
factor_most x (suc y) n e h = omega (arith, mul-suc x y)

some_words : (ed : Edition) → 1 ≤ sheet_length ed
some_words edition1 = omega arith
some_words edition2 = omega arith

-- a round's elements counted together
pub round_joined : (σ : Spelling) (n s t : ℕ) {v : ℕ} → v ≡ word_count σ (n + 2 * s + 2) → v + t ≡ round_word_count σ n s t
unfolding round_word_count
round_joined σ n s t e =
    let z : 2 * s ≡ s + s = omega arith in
    omega (arith, e, count_add σ (n + 2 * s) 2, count_add σ n (2 * s), ap (word_count σ) z, count_add σ s s)

pub parts_small : (σ : Spelling) (n s t : ℕ) → n + (s + s) ≤ round_word_count σ n s t
unfolding round_word_count
parts_small σ n s t = omega (arith, count_least σ n, count_least σ s)

-- i of the rounds are counted in due, and d is the degree bound of level i
pub record Counted (ed : Edition) (w : List ℕ) (due d i : ℕ) : Type 0 where
  pub sum : due ≡ round_start ed (sheet_of ed w) (suc i)
  pub degree : DegreeAt ed w i d

-- the same for the coins, whatever the edition
pub record CountedCoins (w : List ℕ) (due i : ℕ) : Type 0 where
  pub small : due ≤ 4 + 64 * i
  pub sum : (ed : Edition) → sheet_length ed ≤ length w → sheet_test ed w ≡ accepted → due ≡ coins_before (sheet_of ed w) (suc i)

pub coins_start : (w : List ℕ) {v : ℕ} → v ≡ word_count (spelling_of (get_or w 0 0)) 1 → CountedCoins w v 0
unfolding coins_before coin_count sheet_of
coins_start w e = record { small = omega (arith, e, count_most (spelling_of (get_or w 0 0)) 1); sum = λ ed l p. omega (arith, e) }

module _ (ed : Edition) (w : List ℕ) (long : sheet_length ed ≤ length w) (passed : sheet_test ed w ≡ accepted) where
  abbrev h : Sheet
  h = sheet_of ed w

  law : Lawful (sheet_of ed w)
  law = lawful ed w long passed

  pub few : get_or w 4 0 ≤ 5
  few = omega (arith, law.most, law.paired.some, rounds_word ed w long passed)

  -- what the words 1 and 5 and t_i are at most
  pub size_small : get_or w 1 0 ≤ 4096
  unfolding sheet_of
  size_small = law.small

  pub outs_small : get_or w 5 0 ≤ 2
  unfolding sheet_of
  outs_small = law.outs

  time : (i : ℕ) → i ≤ get_or w 4 0 → (level_of (sheet_of ed w) i).repetitions ≡ get_or w (6 + i) 0
  time i l = times_word ed w long passed i l

  pub time_small : (i : ℕ) → i ≤ get_or w 4 0 → get_or w (6 + i) 0 ≤ 48
  time_small i l = omega (arith, time i l, law.times i (omega (arith, rounds_word ed w long passed)))

  pub time_there : (i : ℕ) → i ≤ get_or w 4 0 → 6 + i < length w
  time_there i l = omega (arith, few, long_enough ed w long)

  -- ---- the sizes of the domains, by the logarithm of n0

  pub size_one_bit : ones (get_or w 1 0) ≡ 1
  size_one_bit = let p = (sheet_plain ed w passed).plain.size_power in ap ones p.1 ∙ power_ones p.0

  module _ (log : ℕ) (e : get_or w 1 0 ≡ 2 ^ log) where
    pub log_small : log ≤ 12
    log_small = pow_most log 12 (subst (λ (x : ℕ). x ≤ 4096) e size_small)

    pub first_size : {n : ℕ} → n ≡ 2 ^ (log - 0) → n ≡ get_or w 1 0
    first_size q = q ∙ ap (λ (x : ℕ). 2 ^ x) (sub-zero log) ∙ sym e

    pub level_below : (i : ℕ) → i ≤ get_or w 4 0 → i ≤ log
    unfolding sheet_of
    level_below i l =
        let s = sized h law i (omega (arith, rounds_word ed w long passed)) in
        pow_most i log (omega (arith, factor_most (2 ^ i) (level_of h i).size (2 ^ log) (s.whole ∙ sym law.size ∙ e) (pow_pos log)))

    level_size : (i : ℕ) → i ≤ get_or w 4 0 → 2 ^ (log - i) ≡ (level_of (sheet_of ed w) i).size
    unfolding sheet_of
    level_size i l =
        let b = level_below i l in
        let q : log - i + i ≡ log = omega arith in
        sym (quotient (log - i) i) ∙ ap (λ (x : ℕ). x / 2 ^ i) (ap (λ (x : ℕ). 2 ^ x) q ∙ sym e)

  -- ---- the words

  final_count_lem : final_count (level_of (sheet_of ed w) (rounds_of (sheet_of ed w))) ≡ get_or w 2 0 / product_of (take (suc (get_or w 4 0)) (fold_words ed w))
  unfolding final_count sheet_of
  final_count_lem =
      let M = rounds_of (sheet_of ed w) in
      let e = rounds_word ed w long passed in
      folded h M (omega (arith, law.paired.some))
      ∙ ap (λ (l : List ℕ). get_or w 2 0 / product_of l) (take-take (suc M) (suc (get_or w 4 0)) (fold_words ed w) (omega (arith, e)))
      ∙ ap (λ (x : ℕ). get_or w 2 0 / product_of (take (suc x) (fold_words ed w))) e

  pub words_start : (log : ℕ) → get_or w 1 0 ≡ 2 ^ log → {words n v : ℕ} → words ≡ sheet_length ed → n ≡ 2 ^ (log - 0) → v ≡ word_count (spelling_of (get_or w 0 0)) (n + 1) → Counted ed w (words + v) (get_or w 2 0) 0
  unfolding round_start round_count sheet_of
  words_start log e {n = n} a b v = record {
    sum = omega (arith, a, v, count_add (spelling_of (get_or w 0 0)) n 1, ap (word_count (spelling_of (get_or w 0 0))) (first_size log e b ∙ sym (undivided (get_or w 1 0))));
    degree = degree_first ed w;
  }

  module _ {due d i : ℕ} (c : Counted ed w due d i) where
    module _ (more : i < get_or w 4 0) (log : ℕ) {n : ℕ} (e : get_or w 1 0 ≡ 2 ^ log) (q : n ≡ 2 ^ (log - (i + 1))) where
      next_start : due + round_word_count (spelling_of (get_or w 0 0)) n (get_or w 5 0) (get_or w (6 + i) 0) ≡ round_start ed (sheet_of ed w) (suc (suc i))
      unfolding round_start round_count later_count round_word_count sheet_of
      next_start =
          omega (arith, c.sum, time i (omega arith), ap (word_count (spelling_of (get_or w 0 0))) (q ∙ ap (λ (x : ℕ). 2 ^ (log - x)) (add-one i) ∙ level_size log e (suc i) (omega arith)))

      pub words_fit : due + round_word_count (spelling_of (get_or w 0 0)) n (get_or w 5 0) (get_or w (6 + i) 0) ≤ 8509
      words_fit =
          let M = rounds_of (sheet_of ed w) in
          let l : suc i ≤ M = omega (arith, rounds_word ed w long passed) in
          let r : suc (suc i) + (M - suc i) ≡ suc M = omega arith in
          omega (
            arith,
            next_start,
            starts_grow ed (sheet_of ed w) (suc (suc i)) (M - suc i),
            ap (round_start ed (sheet_of ed w)) r,
            words_due_lem ed (sheet_of ed w) law.paired,
            words_most ed w long passed,
          )

      pub words_turn : {r d' : ℕ} → r ≡ round_word_count (spelling_of (get_or w 0 0)) n (get_or w 5 0) (get_or w (6 + i) 0) → DegreeAt ed w (i + 1) d' → Counted ed w (due + r) d' (i + 1)
      words_turn t g = record {
        sum = omega (arith, t, next_start, ap (λ (x : ℕ). round_start ed (sheet_of ed w) (suc x)) (add-one i));
        degree = g;
      }

    pub words_done : i ≡ get_or w 4 0 → {d' v : ℕ} → DegreeAt ed w (get_or w 4 0 + 1) d' → v ≡ word_count (spelling_of (get_or w 0 0)) d' → due + v + get_or w (6 + get_or w 4 0) 0 ≡ words_due ed (sheet_of ed w)
    unfolding sheet_of
    words_done last {d'} g ev =
        let M = rounds_of (sheet_of ed w) in
        let q : i ≡ M = omega (arith, rounds_word ed w long passed) in
        let m : get_or w 4 0 ≡ M = omega (arith, rounds_word ed w long passed) in
        omega (
          arith,
          c.sum,
          ap (λ (x : ℕ). round_start ed (sheet_of ed w) (suc x)) q,
          ev,
          ap (word_count (spelling_of (get_or w 0 0)))
              (g.degree (omega arith) ∙ ap (λ (x : ℕ). get_or w 2 0 / product_of (take x (fold_words ed w))) (add-one (get_or w 4 0)) ∙ sym final_count_lem),
          time (get_or w 4 0) (omega arith),
          ap (λ (x : ℕ). (level_of (sheet_of ed w) x).repetitions) m,
          words_due_lem ed (sheet_of ed w) law.paired,
        )

  -- a sheet has words
  pub blocks_least : 1 ≤ block_count (words_due ed (sheet_of ed w))
  unfolding block_count words_due
  blocks_least = omega (arith, some_words ed)

  -- ---- the coins

  coins_next : {due i v : ℕ} → i < get_or w 4 0 → v ≡ word_count (spelling_of (get_or w 0 0)) (get_or w 5 0 + 2) → due ≡ coins_before (sheet_of ed w) (suc i) →
      due + (v + get_or w (6 + i) 0) ≡ coins_before (sheet_of ed w) (suc (i + 1))
  unfolding coins_before coin_count later_count sheet_of
  coins_next {due} {i} more ev e = omega (arith, ev, count_add (spelling_of (get_or w 0 0)) (get_or w 5 0) 2, time i (omega arith), ap (λ (x : ℕ). coins_before (sheet_of ed w) (suc x)) (add-one i))

  pub coins_done : {due i : ℕ} → CountedCoins w due i → i ≡ get_or w 4 0 → due + get_or w (6 + get_or w 4 0) 0 ≡ length (coin_kinds (layout (sheet_of ed w)))
  coins_done {due} {i} c last =
      let q : i ≡ rounds_of (sheet_of ed w) = omega (arith, rounds_word ed w long passed) in
      let m : get_or w 4 0 ≡ rounds_of (sheet_of ed w) = omega (arith, rounds_word ed w long passed) in
      omega (
        arith,
        c.sum ed long passed,
        ap (λ (x : ℕ). coins_before (sheet_of ed w) (suc x)) q,
        time (get_or w 4 0) (omega arith),
        ap (λ (x : ℕ). (level_of (sheet_of ed w) x).repetitions) m,
        coins_due_lem ed (sheet_of ed w) law.paired,
      )

pub coins_turn : (ed : Edition) (w : List ℕ) → sheet_length ed ≤ length w → sheet_test ed w ≡ accepted → {due i v : ℕ} → CountedCoins w due i → i < get_or w 4 0 →
    v ≡ word_count (spelling_of (get_or w 0 0)) (get_or w 5 0 + 2) → CountedCoins w (due + (v + get_or w (6 + i) 0)) (i + 1)
coins_turn ed w long passed {due} {i} c more ev = record {
  small = omega (arith, c.small, ev, count_most (spelling_of (get_or w 0 0)) (get_or w 5 0 + 2), outs_small ed w long passed, time_small ed w long passed i (omega arith));
  sum = λ ed' l p. coins_next ed' w l p more ev (c.sum ed' l p);
}
