-- The places of the first coins: those of a round's coins, then those after them.
use Rattle.std.specs.Prelude.{ℕ, zero, suc, ◌+◌, ◌-◌, ◌≤◌, ◌≡◌, refl, length, get_or, take}
use Rattle.std.proofs.Common.{arith, ◌∙◌, get_or-take, length-take-le, take_all, le-ltb, lt-ltb}
use mathlib.Core.List.{List, ◌∷◌, ◌++◌, flat_map, map}
use Rattle.std.proofs.Math.Path.{sym, ap}
use Rattle.device_definition.specs.Coinwise.{places_of_coin}
use Rattle.definition.specs.Deciding.{Place, coin_places, own_place, places_of}
use Rattle.definition.specs.Lists.{range}
use Rattle.definition.specs.Sheet.{Level}
use Rattle.definition.specs.Transcript.{Rest, Round, final, round}
use Rattle.list_laws.specs.All.{All, all_range, map_all}
use Rattle.list_laws.specs.Lists.{by_number, flat_map_append, flat_map_map, get_d_range, range_length}
use Rattle.coinwise.specs.Folds.{places_to}

flat_same : (f g : ℕ → List Place) (xs : List ℕ) → All (λ x. f x ≡ g x) xs → flat_map f xs ≡ flat_map g xs
flat_same f g xs k = sym (flat_map_map (λ z. z) f xs) ∙ ap (flat_map (λ z. z)) (map_all (λ x. f x ≡ g x) f g xs k (λ x e. e)) ∙ flat_map_map (λ z. z) g xs

range_split : (from n m k : ℕ) → n + m ≡ k → range from k ≡ range from n ++ range (from + n) m
unfolding range
range_split from zero m k e =
    let p : k ≡ m = omega arith in
    let q : from + 0 ≡ from = omega arith in
    ap (range from) p ∙ ap (λ (a : ℕ). range a m) (sym q)
range_split from (suc n) m zero e = absurd (omega arith)
range_split from (suc n) m (suc k) e =
    let q : suc from + n ≡ from + suc n = omega arith in
    ap (λ (l : List ℕ). from ∷ l) (range_split (suc from) n m k (omega arith) ∙ ap (λ (a : ℕ). range (suc from) n ++ range a m) q)

range_moved : (from n : ℕ) → range from n ≡ map (λ m. from + m) (range 0 n)
range_moved from n = by_number 0 (range from n) (λ m. from + m) n (range_length from n) (λ m l. get_d_range from n m l)

-- the places of some indices, by their numbers
pub flat_numbers : (g : ℕ → List Place) (js : List ℕ) (n : ℕ) → n ≤ length js → flat_map g (take n js) ≡ flat_map (λ m. g (get_or js m 0)) (range 0 n)
flat_numbers g js n l =
    ap (flat_map g) (by_number 0 (take n js) (λ m. get_or js m 0) n (length-take-le n js l) (λ m u. get_or-take n js m 0 u)) ∙ flat_map_map g (λ m. get_or js m 0) (range 0 n)

module _ {A : Type 0} (b : Level) (places : ℕ → List Place) where
  pub final_places : (cs : List A) (js : List ℕ) (n : ℕ) → n ≤ length js → places_of b places (take n js) ≡ places_to b places n (final cs js)
  unfolding places_to places_of places_of_coin
  final_places cs js n l = flat_numbers (coin_places b places) js n l

  module _ (ρ : Round A) (rest : Rest A) where
    abbrev t : ℕ
    t = length ρ.coins.shifts

    abbrev l : Level
    l = ρ.coins.level

    pub round_places : (n : ℕ) → places_to b places (length ρ.coins.shifts + n) (round ρ rest)
        ≡ places_of b places ρ.coins.shifts ++ places_to ρ.coins.level (own_place ρ.coins.level) n rest
    unfolding places_to places_of places_of_coin
    round_places n =
        ap (flat_map (λ m. places_of_coin b places m (round ρ rest))) (range_split 0 t n (t + n) refl)
        ∙ flat_map_append (λ m. places_of_coin b places m (round ρ rest)) (range 0 t) (range (0 + t) n)
        ∙ (λ i. here i ++ later i)
      where
        here : flat_map (λ m. places_of_coin b places m (round ρ rest)) (range 0 t) ≡ flat_map (coin_places b places) ρ.coins.shifts
        here =
            flat_same _ (λ m. coin_places b places (get_or ρ.coins.shifts m 0)) (range 0 t) (all_range _ 0 t (λ m u k. rw (lt-ltb m t (omega arith))))
            ∙ sym (flat_numbers (coin_places b places) ρ.coins.shifts t (omega arith)) ∙ ap (flat_map (coin_places b places)) (take_all t ρ.coins.shifts (omega arith))

        later : flat_map (λ m. places_of_coin b places m (round ρ rest)) (range (0 + t) n) ≡ flat_map (λ m. places_of_coin l (own_place l) m rest) (range 0 n)
        later =
            ap (flat_map (λ m. places_of_coin b places m (round ρ rest))) (range_moved (0 + t) n)
            ∙ flat_map_map (λ m. places_of_coin b places m (round ρ rest)) (λ m. 0 + t + m) (range 0 n)
            ∙ flat_same _ _ (range 0 n) (all_range _ 0 n (λ m u k. past m))
          where
            past : (m : ℕ) → places_of_coin b places (0 + t + m) (round ρ rest) ≡ places_of_coin l (own_place l) m rest
            past m =
                let e : 0 + t + m - t ≡ m = omega arith in
                rw (le-ltb (0 + t + m) t (omega arith)) (ap (λ (k : ℕ). places_of_coin l (own_place l) k rest) e)
