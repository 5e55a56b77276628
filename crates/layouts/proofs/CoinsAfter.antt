-- What follows the fold coin of a level (KindsAfter), level by level: the first, one from the next, the last, and how many coins it has.
use Prim.Native.Nat.{ℕ, suc, ◌+◌, ◌-◌, ◌≤◌, ◌<◌}
use Rattle.std.proofs.Math.Nat.{sub-zero}
use Rattle.std.proofs.Common.{add-one, append_assoc, ◌∙◌, length-append}
use native.Mathlib.Omega.{arith}
use Rattle.std.specs.Prelude.{Bool, true, false, List, [], ◌++◌, map, ◌≡◌, refl, length, replicate}
use Rattle.std.proofs.Math.Path.{ap}
use Rattle.definition.specs.Layout.{Kind, coin, coin_kinds, index, later_count, layout, rest_layout, round_layout}
use Rattle.definition.specs.Lists.{range}
use Rattle.definition.specs.Sheet.{Sheet, first_level, later_levels, shift_count}
use Rattle.layouts.specs.KindsAfter.{chosen, kinds_after, later_kinds, out_kinds, words_after}
use Rattle.layouts.proofs.LayoutFacts.{coins_append, coins_final, later_length, layout_coins, outs_length, round_coins_lem}
use Rattle.layouts.specs.Levels.{level_of, out_coin_count, rounds_of, words_for}
use Rattle.layouts.proofs.LevelsByNumber.{as_listed}
use Rattle.layouts.specs.LawfulSheets.{Paired}

pub chosen_append : (alone : Bool) (ks ks' : List Kind) → chosen alone (ks ++ ks') ≡ chosen alone ks ++ chosen alone ks'
unfolding chosen
chosen_append false ks ks' = refl
chosen_append true ks ks' = coins_append ks ks'

module _ (h : Sheet) where
  pub words_first : Paired h → rest_layout h.spelling h.out_coins (first_level h) (later_levels h) ≡ words_after h 0
  words_first long = as_listed h (λ b ls. rest_layout h.spelling (out_coin_count h) b ls ≡ words_after h 0) long (rw (sub-zero (rounds_of h)))

  pub words_next : (i : ℕ) → i < rounds_of h → words_after h i ≡ round_layout h.spelling (out_coin_count h) (level_of h i) (level_of h (i + 1)) ++ words_after h (i + 1)
  unfolding range rest_layout
  words_next i l =
      let e : rounds_of h - i ≡ suc (rounds_of h - suc i) = omega arith in
      rw (add-one i) (ap (λ (n : ℕ). rest_layout h.spelling (out_coin_count h) (level_of h i) (map (level_of h) (range (suc i) n))) e)

  pub words_last : (i : ℕ) → rounds_of h ≤ i → words_after h i ≡ rest_layout h.spelling (out_coin_count h) (level_of h i) []
  unfolding range
  words_last i l =
      let e : rounds_of h - i ≡ 0 = omega arith in
      ap (λ (n : ℕ). rest_layout h.spelling (out_coin_count h) (level_of h i) (map (level_of h) (range (suc i) n))) e

module _ (h : Sheet) where
  -- all coins: fold coin 0, and those after it
  pub kinds_all : Paired h → coin_kinds (layout h) ≡ replicate (words_for h 1) coin ++ kinds_after h 0
  kinds_all long = layout_coins h ∙ ap {B = List Kind} (λ ks. replicate (words_for h 1) coin ++ coin_kinds ks) (words_first h long)

  pub kinds_next : (i : ℕ) → i < rounds_of h → kinds_after h i ≡ out_kinds h i ++ (later_kinds h i ++ kinds_after h (i + 1))
  kinds_next i l =
      ap coin_kinds (words_next h i l) ∙ coins_append (round_layout h.spelling (out_coin_count h) (level_of h i) (level_of h (i + 1))) (words_after h (i + 1))
      ∙ ap {B = List Kind} (λ ks. ks ++ kinds_after h (i + 1)) (round_coins_lem h.spelling (out_coin_count h) (level_of h i) (level_of h (i + 1)))
      ∙ append_assoc (out_kinds h i) (later_kinds h i) (kinds_after h (i + 1))

  pub kinds_last : (i : ℕ) → rounds_of h ≤ i → kinds_after h i ≡ replicate (level_of h i).repetitions (index (shift_count (level_of h i)))
  kinds_last i l = ap coin_kinds (words_last h i l) ∙ coins_final h.spelling (out_coin_count h) (level_of h i)

  pub later_count_lem : (i : ℕ) → length (later_kinds h i) ≡ words_for h 2 + (level_of h i).repetitions
  unfolding later_count
  later_count_lem i = later_length h.spelling (level_of h i)

  pub kinds_count : (i : ℕ) → i < rounds_of h → length (kinds_after h i) ≡ words_for h (out_coin_count h) + words_for h 2 + (level_of h i).repetitions + length (kinds_after h (i + 1))
  kinds_count i l =
      omega (
        arith,
        ap length (kinds_next i l),
        length-append (out_kinds h i) (later_kinds h i ++ kinds_after h (i + 1)),
        length-append (later_kinds h i) (kinds_after h (i + 1)),
        outs_length h.spelling (out_coin_count h) (level_of h (i + 1)),
        later_count_lem i,
      )
