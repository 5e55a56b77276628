-- The layout round by round: the kinds of each round, where it begins, and how many coins stand before it; so the number of words due, and of coins.
use Prim.Native.Nat.{ℕ, zero, suc, ◌+◌, ◌-◌, ◌≤◌}
use Rattle.std.proofs.Common.{add-suc, add-zero, ◌∙◌}
use native.Mathlib.Omega.{arith}
use mathlib.Core.List.{List, [], ◌++◌, map, append_assoc}
use Rattle.std.specs.Prelude.{◌≡◌, take, drop}
use Rattle.std.proofs.Math.Path.{refl, sym, ap}
use Rattle.std.proofs.Math.ListN.{length, replicate, length-append, length-replicate}
use Rattle.std.proofs.Math.Seq.{take-append-add, drop-append-add}
use Rattle.definition.specs.Layout.{Kind, coin, coin_kinds, index, layout, message, out_layout, rest_layout, round_layout, words_due}
use Rattle.definition.specs.Lists.{range}
use Rattle.definition.specs.Sheet.{Edition, Level, Sheet, final_count, first_level, sheet_length, shift_count}
use Rattle.list_laws.specs.NumberedParts.{firsts, firsts_length, joined, split_joined}
use Rattle.layouts.proofs.LayoutFacts.{coins_alone, coins_append, coins_final, coins_messages, final_length, later_length, outs_length, round_coins_lem, round_length}
use Rattle.layouts.specs.KindsAfter.{later_layout}
use Rattle.layouts.specs.Levels.{coin_count, coins_before, level_of, out_coin_count, round_count, round_start, rounds_of, words_for}
use Rattle.layouts.proofs.LevelsByNumber.{level_first, levels_later}
use Rattle.layouts.specs.LawfulSheets.{Paired}

pub coins_length : (p q : List Kind) → length (coin_kinds (p ++ q)) ≡ length (coin_kinds p) + length (coin_kinds q)
coins_length p q = ap length (coins_append p q) ∙ length-append (coin_kinds p) (coin_kinds q)

pub no_coins : (n : ℕ) → length (coin_kinds (replicate n message)) ≡ 0
no_coins n = ap length (coins_messages n)

module _ (ed : Edition) (h : Sheet) where
  -- what follows table i in its round
  unfoldable pub after_kinds : ℕ → List Kind
  after_kinds zero = replicate (words_for h 1) coin
  after_kinds (suc i) = out_layout h.spelling (out_coin_count h) (level_of h (suc i)) ++ (replicate (words_for h (out_coin_count h)) message ++ later_layout h.spelling (level_of h i))

  unfoldable pub round_kinds : ℕ → List Kind
  round_kinds i = replicate (words_for h (level_of h i).size) message ++ after_kinds i

  unfoldable pub last_kinds : List Kind
  last_kinds = rest_layout h.spelling (out_coin_count h) (level_of h (rounds_of h)) []

  rest_parts : (m i : ℕ) → i + m ≡ rounds_of h → rest_layout h.spelling (out_coin_count h) (level_of h i) (map (level_of h) (range (suc i) m)) ≡ joined round_kinds last_kinds (suc i) m
  unfolding rest_layout round_layout range joined round_kinds after_kinds last_kinds
  rest_parts zero i e = let q : i ≡ rounds_of h = omega arith in ap (λ (n : ℕ). rest_layout h.spelling (out_coin_count h) (level_of h n) []) q
  rest_parts (suc m) i e = ap (λ (t : List Kind). round_layout h.spelling (out_coin_count h) (level_of h i) (level_of h (suc i)) ++ t) (rest_parts m (suc i) (omega arith))

  pub layout_parts : Paired h → layout h ≡ joined round_kinds last_kinds 0 (suc (rounds_of h))
  unfolding layout joined round_kinds after_kinds first_level
  layout_parts l =
      let n : h.size ≡ (level_of h 0).size = ap (λ (b : Level). b.size) (level_first h) in
      (λ x. replicate (words_for h (n x)) message ++ (replicate (words_for h 1) coin ++ rest_layout h.spelling (out_coin_count h) (level_first h x) (levels_later h l x)))
      ∙ ap (λ (t : List Kind). replicate (words_for h (level_of h 0).size) message ++ (replicate (words_for h 1) coin ++ t)) (rest_parts (rounds_of h) 0 (omega arith))
      ∙ sym (append_assoc (replicate (words_for h (level_of h 0).size) message) (replicate (words_for h 1) coin) _)

  pub kinds_length : (i : ℕ) → length (round_kinds i) ≡ round_count h i
  unfolding round_kinds after_kinds round_count round_layout
  kinds_length zero =
      length-append (replicate (words_for h (level_of h 0).size) message) (replicate (words_for h 1) coin)
      ∙ (λ x. length-replicate (words_for h (level_of h 0).size) message x + length-replicate (words_for h 1) coin x)
  kinds_length (suc i) = round_length h.spelling (out_coin_count h) (level_of h i) (level_of h (suc i))

  pub kinds_coins : (i : ℕ) → length (coin_kinds (round_kinds i)) ≡ coin_count h i
  unfolding round_kinds after_kinds coin_count round_layout
  kinds_coins zero =
      coins_length (replicate (words_for h (level_of h 0).size) message) (replicate (words_for h 1) coin)
      ∙ omega (arith, no_coins (words_for h (level_of h 0).size), ap length (coins_alone (words_for h 1)), length-replicate (words_for h 1) coin)
  kinds_coins (suc i) =
      let b = level_of h i in
      let l = level_of h (suc i) in
      ap length (round_coins_lem h.spelling (out_coin_count h) b l) ∙ length-append (out_layout h.spelling (out_coin_count h) l) _
      ∙ omega (arith, outs_length h.spelling (out_coin_count h) l, later_length h.spelling b)

  firsts_coins : (j : ℕ) → length (coin_kinds (firsts round_kinds j)) ≡ coins_before h j
  unfolding firsts coins_before coin_kinds
  firsts_coins zero = refl
  firsts_coins (suc j) = coins_length (firsts round_kinds j) (round_kinds j) ∙ (λ x. firsts_coins j x + kinds_coins j x)

  firsts_words : (j : ℕ) → sheet_length ed + length (firsts round_kinds j) ≡ round_start ed h j
  unfolding round_start
  firsts_words j = firsts_length round_kinds (round_start ed h) (round_count h) (λ i. refl) j (λ i l. kinds_length i)

  -- rounds begin one after the other, behind the sheet
  pub starts_grow : (i m : ℕ) → round_start ed h i ≤ round_start ed h (i + m)
  unfolding round_start
  starts_grow i zero = rw (add-zero i) (omega arith)
  starts_grow i (suc m) = rw (add-suc i m) (omega (arith, starts_grow i m))

  pub starts_after : (i : ℕ) → sheet_length ed ≤ round_start ed h i
  unfolding round_start
  starts_after zero = omega arith
  starts_after (suc i) = omega (arith, starts_after i)

  module _ (l : Paired h) where
    -- the layout, cut before round j
    cut : (j r : ℕ) → j + r ≡ suc (rounds_of h) → layout h ≡ firsts round_kinds j ++ joined round_kinds last_kinds j r
    cut j r e = layout_parts l ∙ split_joined round_kinds last_kinds j r (suc (rounds_of h)) e

    -- the number of words due: those before the final coefficients, the coefficients and the t_M final indices
    pub words_due_lem : words_due ed h ≡ round_start ed h (suc (rounds_of h)) + (words_for h (final_count (level_of h (rounds_of h))) + (level_of h (rounds_of h)).repetitions)
    unfolding words_due joined last_kinds
    words_due_lem =
        let M = rounds_of h in
        omega (
          arith,
          ap length (cut (suc M) 0 (omega arith)),
          length-append (firsts round_kinds (suc M)) last_kinds,
          firsts_words (suc M),
          final_length h.spelling (out_coin_count h) (level_of h M),
        )

    -- the due number of coins: those before the final coefficients, and the t_M final indices
    pub coins_due_lem : length (coin_kinds (layout h)) ≡ coins_before h (suc (rounds_of h)) + (level_of h (rounds_of h)).repetitions
    unfolding joined last_kinds
    coins_due_lem =
        let M = rounds_of h in
        ap (λ (ks : List Kind). length (coin_kinds ks)) (cut (suc M) 0 (omega arith)) ∙ coins_length (firsts round_kinds (suc M)) _
        ∙ (λ x. firsts_coins (suc M) x + (ap length (coins_final h.spelling (out_coin_count h) (level_of h M)) ∙ length-replicate (level_of h M).repetitions (index (shift_count (level_of h M)))) x)

    -- x words into round j
    pub after_start : (j r x : ℕ) → j + r ≡ suc (rounds_of h) → drop (round_start ed h j + x - sheet_length ed) (layout h) ≡ drop x (joined round_kinds last_kinds j r)
    after_start j r x e =
        let n : round_start ed h j + x - sheet_length ed ≡ length (firsts round_kinds j) + x = omega (arith, firsts_words j) in
        (λ y. drop (n y) (cut j r e y)) ∙ drop-append-add (firsts round_kinds j) (joined round_kinds last_kinds j r) x

    pub before_start : (j r x : ℕ) → j + r ≡ suc (rounds_of h) →
        length (coin_kinds (take (round_start ed h j + x - sheet_length ed) (layout h))) ≡ coins_before h j + length (coin_kinds (take x (joined round_kinds last_kinds j r)))
    before_start j r x e =
        let n : round_start ed h j + x - sheet_length ed ≡ length (firsts round_kinds j) + x = omega (arith, firsts_words j) in
        (λ y. length (coin_kinds (take (n y) (cut j r e y)))) ∙ ap (λ (ks : List Kind). length (coin_kinds ks)) (take-append-add (firsts round_kinds j) (joined round_kinds last_kinds j r) x)
        ∙ coins_length (firsts round_kinds j) _ ∙ ap (λ (n : ℕ). n + length (coin_kinds (take x (joined round_kinds last_kinds j r)))) (firsts_coins j)
