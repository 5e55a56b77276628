-- The messages by number stand where the layout has messages, with as many coins before them as they say, and none is missing; so a full coin list reaches every coin.
use Prim.Native.Nat.{ℕ, zero, suc, ◌+◌, ◌-◌}
use Rattle.std.proofs.Math.Nat
use native.Mathlib.Omega.{arith}
use mathlib.Core.List.{List, ◌++◌, map, append_assoc}
use Rattle.std.specs.Prelude.{◌≡◌, take}
use Rattle.std.proofs.Math.Path.{refl, ap}
use Rattle.std.proofs.Common.{sym, ◌∙◌}
use Rattle.std.proofs.Math.ListN.{length, drop, replicate, length-append, length-replicate}
use Rattle.std.proofs.Math.Seq.{take_at, drop_at}
use Rattle.definition.specs.Layout.{Kind, coin_kinds, index, layout, message, out_layout, rest_layout}
use Rattle.definition.specs.Lists.{range}
use Rattle.definition.specs.Sheet.{Edition, Sheet, final_count, sheet_length, shift_count}
use Rattle.list_laws.specs.Lists.{opened}
use Rattle.list_laws.specs.NumberedParts.{joined}
use Rattle.layouts.proofs.LayoutByRound.{after_start, after_kinds, before_start, coins_length, kinds_coins, kinds_length, last_kinds, layout_parts, no_coins, round_kinds}
use Rattle.layouts.proofs.LayoutFacts.{coins_final, coins_outs, outs_length}
use Rattle.layouts.specs.Levels.{coin_count, coins_before, level_of, out_coin_count, round_count, round_start, rounds_of, total, words_for}
use Rattle.layouts.specs.LawfulSheets.{Paired}
use Rattle.layouts.specs.Spellings.{count_add}
use Rattle.completeness.specs.Numbered.{Due, Message, count_of, final, length_of, replies, sent_before, start_of, table}

module _ (ed : Edition) (h : Sheet) where
  -- the words of a table and of the out coins after it
  table_and_outs : (i : ℕ) → length (replicate (words_for h (level_of h (suc i)).size) message ++ out_layout h.spelling (out_coin_count h) (level_of h (suc i)))
      ≡ words_for h ((level_of h (suc i)).size + out_coin_count h)
  table_and_outs i =
      let n = (level_of h (suc i)).size in
      omega (
        arith,
        length-append (replicate (words_for h n) message) (out_layout h.spelling (out_coin_count h) (level_of h (suc i))),
        length-replicate (words_for h n) message,
        outs_length h.spelling (out_coin_count h) (level_of h (suc i)),
        count_add h.spelling n (out_coin_count h),
      )

  module _ (l : Paired h) where
    -- the words of a message are of kind message
    pub message_kinds : (m : Message) → Due h m → take (length_of h m) (drop (start_of ed h m - sheet_length ed) (layout h)) ≡ replicate (length_of h m) message
    unfolding start_of count_of joined round_kinds last_kinds rest_layout after_kinds
    message_kinds (table i) u =
        let n = words_for h (level_of h i).size in
        let t = replicate n message in
        let k : drop (round_start ed h i - sheet_length ed) (layout h) ≡ t ++ (after_kinds ed h i ++ joined (round_kinds ed h) (last_kinds ed h) (suc i) (rounds_of h - i)) =
        ap (λ (n : ℕ). drop (n - sheet_length ed) (layout h)) (sym (Nat.add-zero (round_start ed h i))) ∙ after_start ed h l i (suc (rounds_of h - i)) 0 (omega arith) ∙ append_assoc t (after_kinds ed h i) _ in
        ap (take n) k ∙ take_at t _ n (length-replicate n message)
    message_kinds (replies zero) u = absurd (omega (arith, u.0))
    message_kinds (replies (suc i)) u =
        let s = words_for h (out_coin_count h) in
        let t = replicate (words_for h (level_of h (suc i)).size) message in
        let o = out_layout h.spelling (out_coin_count h) (level_of h (suc i)) in
        let p = replicate s message in
        let n = words_for h ((level_of h (suc i)).size + out_coin_count h) in
        ap (take s) (after_start ed h l (suc i) (suc (rounds_of h - suc i)) n (omega (arith, u.1))
        ∙ ap (drop n) (opened t o p _ _)
        ∙ drop_at (t ++ o) _ n (table_and_outs i))
        ∙ take_at p _ s (length-replicate s message)
    message_kinds final u =
        let M = rounds_of h in
        let n = words_for h (final_count (level_of h M)) in
        let p = replicate n message in
        ap (take n) (ap (λ (m : ℕ). drop (m - sheet_length ed) (layout h)) (sym (Nat.add-zero (round_start ed h (suc M)))) ∙ after_start ed h l (suc M) 0 0 (omega arith))
        ∙ take_at p _ n (length-replicate n message)

    -- and as many coins stand before it as it says
    pub message_coins : (m : Message) → Due h m → length (coin_kinds (take (start_of ed h m - sheet_length ed) (layout h))) ≡ sent_before h m
    unfolding start_of sent_before joined round_kinds after_kinds coin_kinds
    message_coins (table i) u =
        ap (λ (n : ℕ). length (coin_kinds (take (n - sheet_length ed) (layout h)))) (sym (Nat.add-zero (round_start ed h i)))
        ∙ before_start ed h l i (suc (rounds_of h - i)) 0 (omega arith) ∙ Nat.add-zero (coins_before h i)
    message_coins (replies zero) u = absurd (omega (arith, u.0))
    message_coins (replies (suc i)) u =
        let s = words_for h (out_coin_count h) in
        let t = replicate (words_for h (level_of h (suc i)).size) message in
        let o = out_layout h.spelling (out_coin_count h) (level_of h (suc i)) in
        let n = words_for h ((level_of h (suc i)).size + out_coin_count h) in
        before_start ed h l (suc i) (suc (rounds_of h - suc i)) n (omega (arith, u.1))
        ∙ ap (λ (ks : List Kind). coins_before h (suc i) + length (coin_kinds ks)) (ap (take n) (opened t o (replicate s message) _ _)
        ∙ take_at (t ++ o) _ n (table_and_outs i))
        ∙ ap (λ (n : ℕ). coins_before h (suc i) + n)
        (coins_length t o
        ∙ omega (arith, no_coins (words_for h (level_of h (suc i)).size), ap length (coins_outs h.spelling (out_coin_count h) (level_of h (suc i))), outs_length h.spelling (out_coin_count h) (level_of h (suc i))))
    message_coins final u =
        let M = rounds_of h in
        ap (λ (n : ℕ). length (coin_kinds (take (n - sheet_length ed) (layout h)))) (sym (Nat.add-zero (round_start ed h (suc M))))
        ∙ before_start ed h l (suc M) 0 0 (omega arith) ∙ Nat.add-zero (coins_before h (suc M))

  first_counted : length_of h (table 0) + coin_count h 0 ≡ round_count h 0
  unfolding count_of coin_count round_count
  first_counted = refl

  round_counted : (i : ℕ) → words_for h (level_of h (suc i)).size + words_for h (out_coin_count h) + coin_count h (suc i) ≡ round_count h (suc i)
  unfolding coin_count round_count
  round_counted i = omega arith

  -- the words of the rounds after round i, counted by kind
  counted_after : (m i : ℕ) → total (map (λ j. length_of h (table j)) (range (suc i) m)) + total (map (λ j. length_of h (replies j)) (range (suc i) m)) + length_of h final
      + length (coin_kinds (joined (round_kinds ed h) (last_kinds ed h) (suc i) m)) ≡ length (joined (round_kinds ed h) (last_kinds ed h) (suc i) m)
  unfolding joined range total count_of last_kinds rest_layout
  counted_after zero i =
      let b = level_of h (rounds_of h) in
      let n = words_for h (final_count b) in
      let p = replicate n message in
      let q = replicate b.repetitions (index (shift_count b)) in
      omega (arith, length-append p q, ap length (coins_final h.spelling (out_coin_count h) b), length-replicate n message)
  counted_after (suc m) i =
      let rest = joined (round_kinds ed h) (last_kinds ed h) (suc (suc i)) m in
      let c : words_for h (level_of h (suc i)).size + words_for h (out_coin_count h) + coin_count h (suc i) ≡ round_count h (suc i) = round_counted i in
      omega (arith, c, counted_after m (suc i), kinds_length ed h (suc i), kinds_coins ed h (suc i), length-append (round_kinds ed h (suc i)) rest, coins_length (round_kinds ed h (suc i)) rest)

  -- No message is missing: the words of the messages and the coins are all the words after the sheet.
  pub messages_all : Paired h →
      total (map (λ i. length_of h (table i)) (range 0 (suc (rounds_of h)))) + total (map (λ i. length_of h (replies i)) (range 1 (rounds_of h))) + length_of h final
      + length (coin_kinds (layout h)) ≡ length (layout h)
  unfolding joined range total
  messages_all l =
      let rest = joined (round_kinds ed h) (last_kinds ed h) 1 (rounds_of h) in
      let c : length_of h (table 0) + coin_count h 0 ≡ round_count h 0 = first_counted in
      omega (
        arith,
        c,
        ap length (layout_parts ed h l),
        ap (λ (ks : List Kind). length (coin_kinds ks)) (layout_parts ed h l),
        kinds_length ed h 0,
        kinds_coins ed h 0,
        length-append (round_kinds ed h 0) rest,
        coins_length (round_kinds ed h 0) rest,
        counted_after (rounds_of h) 0,
      )
