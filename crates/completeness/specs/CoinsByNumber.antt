-- The coins of round i by their places in the coin list are those that the walk over the rounds reads there.
use Prim.Native.Nat.{ℕ, zero, suc, ◌+◌}
use Rattle.std.proofs.Math.Nat
use Rattle.std.proofs.Common.{suc-add, zero-add, arith, ◌∙◌}
use mathlib.Core.List.{List, ◌∷◌, map}
use Rattle.std.specs.Prelude.{◌≡◌, take}
use Rattle.std.proofs.Math.Path.{refl, sym, ap}
use Rattle.std.proofs.Math.ListN.{get_or, drop}
use Rattle.std.proofs.Math.Seq.{drop-drop}
use Rattle.definition.specs.Field.{Spelling, elements_in, number_in}
use Rattle.definition.specs.Layout.{later_count, read_coins, read_finals, read_rounds, round_coins}
use Rattle.definition.specs.Lists.{range}
use Rattle.definition.specs.Sheet.{Level, Sheet, first_level, later_levels}
use Rattle.list_laws.specs.Lists.{drop_take}
use Rattle.layouts.specs.Levels.{coin_count, coins_before, element_at, level_of, out_coin_count, rounds_of, words_for}
use Rattle.layouts.proofs.LevelsByNumber.{level_first, levels_later}
use Rattle.layouts.specs.LawfulSheets.{Paired}
use Rattle.layouts.specs.Spellings.{count_add, count_zero, read_at_lem, read_from}
use Rattle.completeness.specs.Numbered.{coins_of, combination_coin, final_indices, fold_coin, out_coins_of, shift_indices}

module _ (h : Sheet) (coins : List ℕ) where
  abbrev σ : Spelling
  σ = h.spelling

  -- one round, of the coins from its first on
  round_read : (i : ℕ) → round_coins h.spelling (level_of h (suc i)) (take (words_for h (out_coin_count h)) (drop (coins_before h (suc i)) coins))
      (take (later_count h.spelling (level_of h i)) (drop (words_for h (out_coin_count h)) (drop (coins_before h (suc i)) coins))) ≡ coins_of h coins (suc i)
  unfolding round_coins later_count out_coins_of combination_coin fold_coin shift_indices
  round_read i =
      let b = coins_before h (suc i) in
      let s = out_coin_count h in
      let t = (level_of h i).repetitions in
      let n = words_for h 2 + t in
      let e : drop (words_for h s) (drop b coins) ≡ drop (b + words_for h s) coins = drop-drop (words_for h s) b coins in
      let two = count_add σ 1 1 in
      let c₀ = count_zero σ in
      let c₁ : b + words_for h s + words_for h 0 ≡ b + words_for h s = omega (arith, c₀) in
      let c₂ : b + words_for h s + words_for h 1 ≡ b + words_for h (s + 1) = omega (arith, count_add σ s 1) in
      let c₃ : b + words_for h s + words_for h 2 ≡ b + words_for h (s + 2) = omega (arith, count_add σ s 2) in
      λ x. record {
        level = level_of h (suc i);
        outs = elements_in σ (take (words_for h s) (drop b coins));
        combination = (ap (λ (v : List ℕ). get_or (elements_in σ (take n v)) 0 (number_in σ 0)) e ∙ read_from σ coins (b + words_for h s) n 0 (omega (arith, two, c₀)) ∙ ap (element_at σ coins) c₁) x;
        fold = (ap (λ (v : List ℕ). get_or (elements_in σ (take n v)) 1 (number_in σ 0)) e ∙ read_from σ coins (b + words_for h s) n 1 (omega (arith, two)) ∙ ap (element_at σ coins) c₂) x;
        shifts = (drop_take (words_for h 2) t (drop (words_for h s) (drop b coins)) ∙ ap (take t) (ap (drop (words_for h 2)) e ∙ drop-drop (words_for h 2) (b + words_for h s) coins ∙ ap (λ (m : ℕ). drop m coins) c₃)) x;
      }

  next_coins : (i : ℕ) → drop (later_count h.spelling (level_of h i)) (drop (words_for h (out_coin_count h)) (drop (coins_before h (suc i)) coins)) ≡ drop (coins_before h (suc (suc i))) coins
  unfolding coins_before coin_count
  next_coins i =
      let b = coins_before h (suc i) in
      let s = words_for h (out_coin_count h) in
      let n = later_count σ (level_of h i) in
      ap (drop n) (drop-drop s b coins) ∙ drop-drop n (b + s) coins ∙ ap (λ (m : ℕ). drop m coins) (Nat.add_assoc b s n)

  first_coins : drop (words_for h 1) coins ≡ drop (coins_before h 1) coins
  unfolding coins_before coin_count
  first_coins = ap (λ (n : ℕ). drop n coins) (sym (zero-add (words_for h 1)))

  -- m rounds from round i + 1 on
  rounds_read : (m i : ℕ) → read_rounds h.spelling (out_coin_count h) (level_of h i) (map (level_of h) (range (suc i) m)) (drop (coins_before h (suc i)) coins) ≡ map (coins_of h coins) (range (suc i) m)
  unfolding read_rounds range
  rounds_read zero i = refl
  rounds_read (suc m) i = λ x. round_read i x
      ∷ (ap (read_rounds h.spelling (out_coin_count h) (level_of h (suc i)) (map (level_of h) (range (suc (suc i)) m))) (next_coins i) ∙ rounds_read m (suc i)) x

  finals_read : (m i : ℕ) → read_finals h.spelling (out_coin_count h) (level_of h i) (map (level_of h) (range (suc i) m)) (drop (coins_before h (suc i)) coins) ≡ drop (coins_before h (suc (i + m))) coins
  unfolding read_finals range
  finals_read zero i = ap (λ (n : ℕ). drop (coins_before h (suc n)) coins) (sym (Nat.add-zero i))
  finals_read (suc m) i =
      ap (read_finals h.spelling (out_coin_count h) (level_of h (suc i)) (map (level_of h) (range (suc (suc i)) m))) (next_coins i) ∙ finals_read m (suc i)
      ∙ ap (λ (n : ℕ). drop (coins_before h (suc n)) coins) (suc-add i m ∙ sym (Nat.add-suc i m))

  -- the coins that the sheet makes of the list
  pub coins_read : Paired h →
      read_coins h.spelling h coins ≡ record { fold = fold_coin h coins 0; rounds = map (coins_of h coins) (range 1 (rounds_of h)); finals = final_indices h coins }
  unfolding read_coins fold_coin final_indices
  coins_read l = λ x. record {
    fold = (read_at_lem σ coins 0 ∙ ap (element_at σ coins) (count_zero σ)) x;
    rounds = (read_at (λ b ls u. read_rounds h.spelling (out_coin_count h) b ls u) ∙ rounds_read (rounds_of h) 0) x;
    finals = (read_at (λ b ls u. read_finals h.spelling (out_coin_count h) b ls u) ∙ finals_read (rounds_of h) 0 ∙ ap (λ (n : ℕ). drop (coins_before h (suc n)) coins) (zero-add (rounds_of h))) x;
  }
    where
      read_at : {B : Type 0} (read : Level → List Level → List ℕ → B) →
          read (first_level h) (later_levels h) (drop (words_for h 1) coins) ≡ read (level_of h 0) (map (level_of h) (range 1 (rounds_of h))) (drop (coins_before h 1) coins)
      read_at read = λ x. read (level_first h x) (levels_later h l x) (first_coins x)
