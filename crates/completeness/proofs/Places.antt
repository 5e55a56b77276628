-- The places that coins lead to, by number: those of the k roots of each coin, in the level's own table.
use Prim.Native.Nat.{ℕ, zero, suc, ◌+◌, ◌*◌, ◌<◌}
use Rattle.std.proofs.Math.Nat.{suc-mul, zero-mul}
use Rattle.std.proofs.Common.{arith, ◌∙◌}
use mathlib.Core.List.{List, [], ◌∷◌, ◌++◌, flat_map, map}
use Rattle.std.specs.Prelude.{◌≡◌}
use Rattle.std.proofs.Math.Path.{refl, ap}
use Rattle.std.proofs.Math.ListN.{length, get_or, length-map, get_or-append}
use Rattle.std.proofs.Math.Seq.{get_or-append-add}
use Rattle.definition.specs.Deciding.{Place, coin_places, own_place, places_of}
use Rattle.definition.specs.Domain.{root_numbers}
use Rattle.definition.specs.Sheet.{Edition, Level, Sheet, shift_count}
use Rattle.list_laws.specs.All.{everywhere}
use Rattle.list_laws.specs.Lists.{flat_map_length, get_d_map}
use Rattle.layouts.specs.Levels.{level_of}
use Rattle.layouts.specs.RootNumbers.{root_number, roots_length}
use Rattle.completeness.proofs.Dependence.{own_places}
use Rattle.completeness.specs.Faults.{function_in}

module _ (l : Level) (d : Place) where
  abbrev place : ℕ → Place
  place y = record { table = l.number; number = y }

  own_map : (ns : List ℕ) → flat_map (own_place l) ns ≡ map place ns
  unfolding flat_map own_place
  own_map [] = refl
  own_map (n ∷ ns) = ap {B = List Place} (λ t. place n ∷ t) (own_map ns)

  coin_length : (j : ℕ) → length (coin_places l (own_place l) j) ≡ l.fold
  unfolding coin_places
  coin_length j = ap length (own_map (root_numbers l j)) ∙ length-map (root_numbers l j) place ∙ roots_length l j

  coin_place : (j m : ℕ) → m < l.fold → get_or (coin_places l (own_place l) j) m d ≡ place (j + m * shift_count l)
  unfolding coin_places
  coin_place j m u =
      ap (λ (t : List Place). get_or t m d) (own_map (root_numbers l j)) ∙ get_d_map place (root_numbers l j) 0 d m (omega (arith, roots_length l j)) ∙ ap place (root_number l j m u)

  places_length : (js : List ℕ) → length (places_of l (own_place l) js) ≡ length js * l.fold
  unfolding places_of
  places_length js = flat_map_length (coin_places l (own_place l)) l.fold js (everywhere js coin_length)

  places_at : (js : List ℕ) (a m : ℕ) → a < length js → m < l.fold → get_or (places_of l (own_place l) js) (a * l.fold + m) d ≡ place (get_or js a 0 + m * shift_count l)
  unfolding places_of flat_map
  places_at [] a m g u = absurd (omega arith)
  places_at (j ∷ js) zero m g u =
      ap (λ (n : ℕ). get_or (coin_places l (own_place l) j ++ places_of l (own_place l) js) n d) (let e : 0 * l.fold + m ≡ m = omega (arith, zero-mul l.fold) in e)
      ∙ get_or-append (coin_places l (own_place l) j) (places_of l (own_place l) js) d m (omega (arith, coin_length j)) ∙ coin_place j m u
  places_at (j ∷ js) (suc a) m g u =
      let p = coin_places l (own_place l) j in
      let e : suc a * l.fold + m ≡ length p + (a * l.fold + m) = omega (arith, coin_length j, suc-mul a l.fold) in
      ap (λ (n : ℕ). get_or (p ++ places_of l (own_place l) js) n d) e ∙ get_or-append-add p (places_of l (own_place l) js) (a * l.fold + m) d ∙ places_at js a m (omega arith) u

-- the places that coins lead to at level i
module _ (ed : Edition) (h : Sheet) (w : List ℕ) (i : ℕ) (js : List ℕ) where
  pub same_places : places_of (level_of h i) (function_in ed h w i).places js ≡ places_of (level_of h i) (own_place (level_of h i)) js
  same_places = ap (λ (f : ℕ → List Place). places_of (level_of h i) f js) (own_places ed h w i)

  pub coin_places_count : length (places_of (level_of h i) (function_in ed h w i).places js) ≡ length js * (level_of h i).fold
  coin_places_count = ap length same_places ∙ places_length (level_of h i) (record { table = 0; number = 0 }) js

  pub coin_places_lem : (a m : ℕ) → a < length js → m < (level_of h i).fold →
      get_or (places_of (level_of h i) (function_in ed h w i).places js) (a * (level_of h i).fold + m) (record { table = 0; number = 0 })
      ≡ record { table = i; number = get_or js a 0 + m * shift_count (level_of h i) }
  coin_places_lem a m g u = ap (λ (t : List Place). get_or t (a * (level_of h i).fold + m) (record { table = 0; number = 0 })) same_places ∙ places_at (level_of h i) _ js a m g u
