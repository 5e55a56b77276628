-- The draws of each function, joined: the coins of a round from its out coins and the others, those after a fold coin from a round and those after it.
-- Assumes nothing.
use Prim.Native.Nat.{ℕ, ◌+◌, ◌-◌, ◌≤◌, ◌<◌}
use native.Mathlib.Omega.{arith}
use mathlib.Core.List.{List, [], ◌∷◌, ◌++◌, append_assoc}
use mathlib.Core.Option.{Option, none}
use mathlib.Core.Path.{◌≡◌, refl, sym, ap, ◌∙◌}
use lib.ListN.{length, get_or, take, drop, replicate, length-append, length-drop, length-replicate, take-append-drop}
use lib.Seq.{length-take-le}
use Rattle.definition.specs.Field.{Spelling, prime_of, word_count}
use Rattle.definition.specs.Layout.{Kind, coin, coin_kinds, index, layout, message, out, out_layout}
use Rattle.definition.specs.Load.{Drawn, draw_kinds}
use Rattle.definition.specs.Sheet.{Sheet, edition1, sheet_of, shift_count}
use Rattle.layouts.proofs.CoinsAfter.{kinds_all, kinds_count, kinds_last, kinds_next}
use Rattle.layouts.specs.KindsAfter.{kinds_after, later_kinds, later_layout, out_kinds}
use Rattle.layouts.proofs.Lawful.{lawful}
use Rattle.layouts.specs.LawfulSheets.{Paired}
use Rattle.layouts.specs.Levels.{level_of, out_coin_count}
use Rattle.layouts.specs.OneWord.{count_one_word}
use Rattle.generator.specs.Draws.{draw_many, indices_drawn, messages_drawn}
use Rattle.draws.specs.AtLevel.{AtLevel, rounds_are, single, times_are}
use Rattle.draws.proofs.KindsDrawn.{after_append, after_coin, after_later, drawn_both, drawn_length, one_coin, out_after, two_coins}

-- what is drawn and the generator as it then is, against what the definition draws
abbrev pub Is : List ℕ → ℕ → Drawn (List ℕ) → Type 0
Is words next d = ◌≡◌ {A = Drawn (List ℕ)} (record { value = words; next = next }) d

module _ (field v : ℕ) {p : ℕ} (ep : p ≡ prime_of field) (h : Sheet) (eh : h.prime ≡ prime_of field) where
  -- the field's prime is the sheet's
  below_prime : (n : ℕ) → draw_many p n v ≡ draw_many h.prime n v
  below_prime n = ap (λ (q : ℕ). draw_many q n v) (ep ∙ sym eh)

  pub elements : (n : ℕ) {words : List ℕ} {next : ℕ} → Is words next (draw_many p n v) → Is words next (draw_kinds h none (replicate n message) v)
  elements n d = d ∙ below_prime n ∙ sym (messages_drawn h none n v)

  pub one_element : {n : ℕ} {words : List ℕ} {next : ℕ} → n ≡ 1 → Is words next (draw_many p n v) → Is words next (draw_kinds h none (coin ∷ []) v)
  one_element {n} e d = d ∙ below_prime n ∙ ap (λ (m : ℕ). draw_many h.prime m v) e ∙ one_coin h none v

  two_elements : (before : Option ℕ) {n : ℕ} {words : List ℕ} {next : ℕ} → n ≡ 2 → Is words next (draw_many p n v) → Is words next (draw_kinds h before (coin ∷ coin ∷ []) v)
  two_elements before {n} e d = d ∙ below_prime n ∙ ap (λ (m : ℕ). draw_many h.prime m v) e ∙ two_coins h before v

  -- the coins of a round but its out coins
  pub later_coins : (before : Option ℕ) (limit : ℕ) {n m count : ℕ} {words front back : List ℕ} {next last : ℕ} → words ≡ front ++ back → n ≡ 2 → m ≡ count →
      Is front next (draw_many p n v) → Is back last (draw_many limit m next) → Is words last (draw_kinds h before (coin ∷ coin ∷ replicate count (index limit)) v)
  later_coins before limit {m = m} {count} {next = next} e en em first second =
      drawn_both h before (coin ∷ coin ∷ []) (replicate count (index limit)) v e (two_elements before en first) refl
      (second ∙ ap (λ (j : ℕ). draw_many limit j next) em ∙ sym (indices_drawn h _ limit count next))

module _ {w pw : List ℕ} {i scale : ℕ} (a : AtLevel w pw i scale) (v : ℕ) where
  abbrev h : Sheet
  h = sheet_of edition1 w

  -- a round's out coins and its other coins, each of one word
  abbrev outs : List Kind
  outs = replicate (out_coin_count h) (out (level_of h (i + 1)))

  abbrev later : List Kind
  later = coin ∷ coin ∷ replicate (level_of h i).repetitions (index (shift_count (level_of h i)))

  outs_one : out_kinds (sheet_of edition1 w) i ≡ replicate (out_coin_count (sheet_of edition1 w)) (out (level_of (sheet_of edition1 w) (i + 1)))
  unfolding out_layout
  outs_one = ap (λ (σ : Spelling). out_layout σ (out_coin_count h) (level_of h (i + 1))) (single a)

  later_one : later_kinds (sheet_of edition1 w) i ≡ coin ∷ coin ∷ replicate (level_of (sheet_of edition1 w) i).repetitions (index (shift_count (level_of (sheet_of edition1 w) i)))
  unfolding word_count
  later_one = ap (λ (σ : Spelling). later_layout σ (level_of h i)) (single a)

  round_one : outs ++ later ≡ out_kinds (sheet_of edition1 w) i ++ later_kinds (sheet_of edition1 w) i
  round_one = λ x. sym outs_one x ++ sym later_one x

  -- the coins of round i + 1
  pub round_coins_lem : {n m all limit : ℕ} {words front back : List ℕ} {next last : ℕ} → words ≡ front ++ back → all ≡ get_or w 5 0 + 2 + get_or w (6 + i) 0 →
      n ≡ get_or w 5 0 → m ≡ all - get_or w 5 0 → limit ≡ shift_count (level_of (sheet_of edition1 w) i) →
      Is front next (draw_kinds (sheet_of edition1 w) none (replicate n (out (level_of (sheet_of edition1 w) (i + 1)))) v) →
      ((before : Option ℕ) → Is back last (draw_kinds (sheet_of edition1 w) before (coin ∷ coin ∷ replicate (m - 2) (index limit)) next)) →
      Is words last (draw_kinds (sheet_of edition1 w) none (out_kinds (sheet_of edition1 w) i ++ later_kinds (sheet_of edition1 w) i) v)
  unfolding sheet_of
  round_coins_lem {m = m} {front = front} {next = next} e ea en em el first second =
      let et : m - 2 ≡ (level_of h i).repetitions = omega (arith, times_are a) in
      drawn_both h none outs later v e
      (first ∙ ap (λ (j : ℕ). draw_kinds h none (replicate j (out (level_of h (i + 1)))) v) en) refl
      (second (out_after none outs front) ∙ (λ x. draw_kinds h (out_after none outs front) (coin ∷ coin ∷ replicate (et x) (index (el x))) next))
      ∙ ap (λ (ks : List Kind). draw_kinds h none ks v) round_one

  -- after them none stands before the next coin
  round_closed : i < get_or w 4 0 → {words : List ℕ} {next : ℕ} →
      Is words next (draw_kinds (sheet_of edition1 w) none (out_kinds (sheet_of edition1 w) i ++ later_kinds (sheet_of edition1 w) i) v) →
      out_after none (out_kinds (sheet_of edition1 w) i ++ later_kinds (sheet_of edition1 w) i) words ≡ none
  round_closed more {words} first =
      let n = out_coin_count h in
      let t = (level_of h i).repetitions in
      let law = lawful edition1 w (omega (arith, a.long)) a.passed in
      let drawn = ap (λ (d : Drawn (List ℕ)). length d.value) first ∙ drawn_length h none (out_kinds h i ++ later_kinds h i) v in
      let long : length words ≡ length (outs ++ later) = drawn ∙ ap length (sym round_one) in
      let count = length-append outs later in
      let ns = length-replicate n (out (level_of h (i + 1))) in
      let nt = length-replicate t (index (shift_count (level_of h i))) in
      ap (λ (ks : List Kind). out_after none ks words) (sym round_one) ∙ ap (out_after none (outs ++ later)) (sym (take-append-drop n words))
      ∙ after_append none outs later (take n words) (drop n words) (length-take-le n words (omega (arith, long, count, ns)) ∙ sym ns)
      ∙ after_later _ t (shift_count (level_of h i)) (drop n words) (law.once i (omega (arith, rounds_are a))) (length-drop n words ∙ omega (arith, long, count, ns, nt))

  -- those after fold coin i: a round's and those after it,
  pub coins_more : {words front back : List ℕ} {next last : ℕ} → i < get_or w 4 0 → words ≡ front ++ back →
      Is front next (draw_kinds (sheet_of edition1 w) none (out_kinds (sheet_of edition1 w) i ++ later_kinds (sheet_of edition1 w) i) v) →
      Is back last (draw_kinds (sheet_of edition1 w) none (kinds_after (sheet_of edition1 w) (i + 1)) next) → Is words last (draw_kinds (sheet_of edition1 w) none (kinds_after (sheet_of edition1 w) i) v)
  coins_more more e first second =
      drawn_both h none (out_kinds h i ++ later_kinds h i) (kinds_after h (i + 1)) v e first (round_closed more first) second
      ∙ ap (λ (ks : List Kind). draw_kinds h none ks v) (append_assoc (out_kinds h i) (later_kinds h i) (kinds_after h (i + 1)) ∙ sym (kinds_next h i (omega (arith, rounds_are a))))

  -- or the final indices
  pub coins_last : {n limit : ℕ} {words : List ℕ} {last : ℕ} → i ≡ get_or w 4 0 → n ≡ length (kinds_after (sheet_of edition1 w) i) → limit ≡ shift_count (level_of (sheet_of edition1 w) i) →
      Is words last (draw_many limit n v) → Is words last (draw_kinds (sheet_of edition1 w) none (kinds_after (sheet_of edition1 w) i) v)
  coins_last {n} {limit} e en el d =
      let t = (level_of h i).repetitions in
      let c = shift_count (level_of h i) in
      let k = kinds_last h i (omega (arith, rounds_are a)) in
      let et : n ≡ t = en ∙ ap length k ∙ length-replicate t (index c) in
      d ∙ (λ x. draw_many (el x) (et x) v) ∙ sym (indices_drawn h none c t v) ∙ ap (λ (ks : List Kind). draw_kinds h none ks v) (sym k)

-- before round i + 1, which has `count` of the n coins still to be drawn
pub record ToNextLevel (w : List ℕ) (i n count : ℕ) : Type 0 where
  pub more : i < get_or w 4 0
  pub within : count ≤ n
  pub left : n - count ≡ length (kinds_after (sheet_of edition1 w) (i + 1))

pub not_last : (i m : ℕ) → i ≤ m → (i ≡ m → ⊥) → i < m
not_last i m h e = omega arith

pub to_next_level : {w pw : List ℕ} {i scale n count : ℕ} → AtLevel w pw i scale → i < get_or w 4 0 → n ≡ length (kinds_after (sheet_of edition1 w) i) → count ≡ get_or w 5 0 + 2 + get_or w (6 + i) 0 →
    ToNextLevel w i n count
unfolding sheet_of
to_next_level {w} {i = i} a more en ec =
    let n = count_one_word (sheet_of edition1 w) (single a) in
    let c = kinds_count (sheet_of edition1 w) i (omega (arith, rounds_are a)) in
    let s = n (sheet_of edition1 w).out_coins in
    record { more = more; within = omega (arith, c, s, n 2, times_are a); left = omega (arith, c, s, n 2, times_are a) }

-- all coins: fold coin 0, and those after it
paired : {w pw : List ℕ} → AtLevel w pw 0 1 → Paired (sheet_of edition1 w)
paired {w} a = (lawful edition1 w (omega (arith, a.long)) a.passed).paired

all_one : {w pw : List ℕ} → AtLevel w pw 0 1 → coin_kinds (layout (sheet_of edition1 w)) ≡ coin ∷ kinds_after (sheet_of edition1 w) 0
unfolding word_count
all_one {w} a =
    let h = sheet_of edition1 w in
    kinds_all h (paired a) ∙ ap (λ (σ : Spelling). replicate (word_count σ 1) coin ++ kinds_after h 0) (single a)

pub all_counted : {w pw : List ℕ} {n : ℕ} → AtLevel w pw 0 1 → n ≡ length (coin_kinds (layout (sheet_of edition1 w))) → n ≡ 1 + length (kinds_after (sheet_of edition1 w) 0)
all_counted {w} a e = omega (arith, ap length (all_one a))

pub coins_all : (w pw : List ℕ) (v : ℕ) {words front back : List ℕ} {next last : ℕ} → AtLevel w pw 0 1 → words ≡ front ++ back →
    Is front next (draw_kinds (sheet_of edition1 w) none (coin ∷ []) v) → Is back last (draw_kinds (sheet_of edition1 w) none (kinds_after (sheet_of edition1 w) 0) next) →
    Is words last (draw_kinds (sheet_of edition1 w) none (coin_kinds (layout (sheet_of edition1 w))) v)
coins_all w pw v {front = front} a e first second =
    let h = sheet_of edition1 w in
    drawn_both h none (coin ∷ []) (kinds_after h 0) v e first (after_coin front) second
    ∙ ap (λ (ks : List Kind). draw_kinds h none ks v) (sym (all_one a))
