-- Locality: the next fold depends on the tables at the places of its coin alone, and what a coin settles on no table.
use Prim.Native.Nat.{ℕ, ◌-◌}
use Rattle.std.specs.Prelude.{Bool, true, false, cond, ◌≡◌, ltb, length, get_or, drop}
use mathlib.Core.List.{List, [], ◌∷◌, flat_map}
use Rattle.std.proofs.Math.Path.{refl, ap}
use Rattle.std.proofs.Common.{sym, subst, length-drop}
use Rattle.device_definition.specs.Coinwise.{answers_by, next_fold, places_of_coin, settled}
use Rattle.definition.specs.Deciding.{Place, coin_places, next_function, own_place}
use Rattle.definition.specs.Domain.{fold_at, point, root_numbers}
use Rattle.definition.specs.Field.{Field}
use Rattle.definition.specs.Polynomial.{Sample, clash, corrected_value, distinct, evaluate, interpolate}
use Rattle.definition.specs.Sheet.{Level}
use Rattle.definition.specs.Transcript.{Rest, final, round}
use Rattle.list_laws.specs.All.{All, all_left, all_right, map_all}

each_of : (P : Place → Type 0) (g : ℕ → List Place) (xs : List ℕ) → All P (flat_map g xs) → All (λ x. All P (g x)) xs
unfolding flat_map
each_of P g [] h = tt
each_of P g (x ∷ xs) h = (all_left P (g x) (flat_map g xs) h, each_of P g xs (all_right P (g x) (flat_map g xs) h))

-- a rest with other tables: T i for that of round i
unfoldable pub with_tables : {A : Type 0} → (ℕ → List A) → Rest A → Rest A
with_tables T (final cs js) = final cs js
with_tables T (round ρ rest) = round (record { coins = ρ.coins; table = T ρ.coins.level.number; replies = ρ.replies }) (with_tables T rest)

module _ {A : Type 0} (F : Field A) (ω : A) (Same : Place → Type 0) where
  open F use {𝟘}

  -- two functions that agree where their places are the same
  abbrev pub Agreeing : (ℕ → List Place) → (ℕ → A) → (ℕ → A) → Type 0
  Agreeing places f g = (j : ℕ) → All Same (places j) → f j ≡ g j

  fold_same : (b : Level) (places : ℕ → List Place) (f g : ℕ → A) (r : A) (j : ℕ) → Agreeing places f g → All Same (coin_places b places j) →
      fold_at F ω b f r j ≡ fold_at F ω b g r j
  unfolding fold_at coin_places
  fold_same b places f g r j a h =
      ap (λ (s : List (Sample A)). evaluate F (interpolate F s) r)
      (map_all {B = Sample A} (λ m. All Same (places m)) _ _ (root_numbers b j) (each_of Same places (root_numbers b j) h) (λ m k i. record { point = point F ω b m; value = a m k i }))

  -- two sets of tables that agree at the places that are the same
  module _ (T U : ℕ → List A) (tables : (l : Level) (j : ℕ) → All Same (own_place l j) → get_or (T l.number) j 𝟘 ≡ get_or (U l.number) j 𝟘) where
    pub next_local : (rest : Rest A) (b : Level) (places : ℕ → List Place) (f g : ℕ → A) (r : A) (vs : List A) → Agreeing places f g →
        All Same (places_of_coin b places (length vs) rest) → next_fold F ω b f r vs (with_tables T rest) ≡ next_fold F ω b g r vs (with_tables U rest)
    unfolding next_fold with_tables places_of_coin next_function answers_by
    next_local (final cs js) b places f g r vs a h = fold_same b places f g r (get_or js (length vs) 0) a h
    next_local (round ρ rest) b places f g r vs a h =
        go (ltb (length vs) (length ρ.coins.shifts)) h
        (λ p. next_local rest ρ.coins.level (own_place ρ.coins.level) (after T) (after U) ρ.coins.fold (drop (length ρ.coins.shifts) vs) agreeing p)
      where
        after : (ℕ → List A) → ℕ → A
        after S = (next_function F ω (distinct F (answers_by F ω b vs (record { coins = ρ.coins; table = S ρ.coins.level.number; replies = ρ.replies })))
            (record { coins = ρ.coins; table = S ρ.coins.level.number; replies = ρ.replies })).value

        agreeing : Agreeing (own_place ρ.coins.level) (after T) (after U)
        agreeing j k = ap (corrected_value F _ ρ.coins.combination (point F ω ρ.coins.level j)) (tables ρ.coins.level j k)

        go : (c : Bool) → All Same (cond c (coin_places b places (get_or ρ.coins.shifts (length vs) 0)) (places_of_coin ρ.coins.level (own_place ρ.coins.level) (length vs - length ρ.coins.shifts) rest)) →
            (All Same (places_of_coin ρ.coins.level (own_place ρ.coins.level) (length (drop (length ρ.coins.shifts) vs)) rest) →
            next_fold F ω ρ.coins.level (after T) ρ.coins.fold (drop (length ρ.coins.shifts) vs) (with_tables T rest)
            ≡ next_fold F ω ρ.coins.level (after U) ρ.coins.fold (drop (length ρ.coins.shifts) vs) (with_tables U rest)) →
            cond c (fold_at F ω b f r (get_or ρ.coins.shifts (length vs) 0))
            (cond (clash F (answers_by F ω b vs ρ)) 𝟘 (next_fold F ω ρ.coins.level (after T) ρ.coins.fold (drop (length ρ.coins.shifts) vs) (with_tables T rest)))
            ≡ cond c (fold_at F ω b g r (get_or ρ.coins.shifts (length vs) 0))
            (cond (clash F (answers_by F ω b vs ρ)) 𝟘 (next_fold F ω ρ.coins.level (after U) ρ.coins.fold (drop (length ρ.coins.shifts) vs) (with_tables U rest)))
        go true q k = fold_same b places f g r (get_or ρ.coins.shifts (length vs) 0) a q
        go false q k = ap (cond (clash F (answers_by F ω b vs ρ)) 𝟘) (k (subst (λ (n : ℕ). All Same (places_of_coin ρ.coins.level (own_place ρ.coins.level) n rest)) (sym (length-drop (length ρ.coins.shifts) vs)) q))

    pub settled_local : (rest : Rest A) (b : Level) (vs : List A) → settled F ω b vs (with_tables T rest) ≡ settled F ω b vs (with_tables U rest)
    unfolding settled with_tables answers_by
    settled_local (final cs js) b vs = refl
    settled_local (round ρ rest) b vs = rw (settled_local rest ρ.coins.level (drop (length ρ.coins.shifts) vs))
