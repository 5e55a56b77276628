-- Deciding coin by coin (02, CR 10): what is known of the tables after some shift and final coins, in file order, are the folds at them.
use Rattle.std.specs.Prelude.{ℕ, ◌+◌, ◌-◌, Bool, not, cond, List, ◌++◌, map, eqb, ltb, length, get_or, drop}
use Rattle.std.proofs.Math.Option.{Option, none, some}
use Rattle.definition.specs.Field.{Field}
use Rattle.definition.specs.Sheet.{Level}
use Rattle.definition.specs.Polynomial.{Sample, pair, evaluate, clash, distinct}
use Rattle.definition.specs.Domain.{shift_point, fold_at}
use Rattle.definition.specs.Transcript.{Round, Rest, final, round}
use Rattle.definition.specs.Verdict.{Outcome, accepted, refused}
use Rattle.definition.specs.Deciding.{Place, own_place, coin_places, next_function}

-- the number of shift and final coins
unfoldable pub index_count : {A : Type 0} → Rest A → ℕ
index_count (final coefficients js) = length js
index_count (round ρ rest) = length ρ.coins.shifts + index_count rest

-- the places that coin n leads to, n from 0, from level b on, whose function has these places at a point
unfoldable pub places_of_coin : {A : Type 0} → Level → (ℕ → List Place) → ℕ → Rest A → List Place
places_of_coin b places n (final coefficients js) = coin_places b places (get_or js n 0)
places_of_coin b places n (round ρ rest) =
    cond (ltb n (length ρ.coins.shifts)) (coin_places b places (get_or ρ.coins.shifts n 0))
    (places_of_coin ρ.coins.level (own_place ρ.coins.level) (n - length ρ.coins.shifts) rest)

module _ {A : Type 0} (F : Field A) (ω : A) where
  open F use {𝟘, equal}

  -- G_i's list, given the folds at its shift points
  unfoldable pub answers_by : Level → List A → Round A → List (Sample A)
  answers_by b folds ρ = pair ρ.coins.outs ρ.replies ++ pair (map (shift_point F ω b) ρ.coins.shifts) folds

  -- The fold at the next coin, after coins with these folds, from level b on with its function f and fold coin r. Of a round that lies behind, G_i is made of its
  -- folds alone, and f is not looked at. After a clash no coin is treated: 0.
  unfoldable pub next_fold : Level → (ℕ → A) → A → List A → Rest A → A
  next_fold b f r folds (final coefficients js) = fold_at F ω b f r (get_or js (length folds) 0)
  next_fold b f r folds (round ρ rest) =
      let t = length ρ.coins.shifts in
      let g = answers_by b folds ρ in
      let next = next_fold ρ.coins.level (next_function F ω (distinct F g) ρ).value ρ.coins.fold (drop t folds) rest in
      cond (ltb (length folds) t) (fold_at F ω b f r (get_or ρ.coins.shifts (length folds) 0)) (cond (clash F g) 𝟘 next)

  -- does the final polynomial differ from the fold at final coin q?
  unfoldable pub differs_at : Level → List A → List ℕ → List A → ℕ → Bool
  differs_at b coefficients js folds q = not (equal (evaluate F coefficients (shift_point F ω b (get_or js q 0))) (get_or folds q 𝟘))

  -- What coins with these folds settle: a round all of whose shift coins are treated may settle 8, the last final coin treated 9, and all final coins that the file
  -- is accepted.
  unfoldable pub settled : Level → List A → Rest A → Option Outcome
  settled b folds (final coefficients js) =
      let q = length folds - 1 in
      cond (eqb (length folds) 0) none
      (cond (differs_at b coefficients js folds q) (some (refused 9 q)) (cond (eqb (length folds) (length js)) (some accepted) none))
  settled b folds (round ρ rest) =
      let t = length ρ.coins.shifts in
      cond (ltb (length folds) t) none
      (cond (clash F (answers_by b folds ρ)) (some (refused 8 ρ.coins.level.number)) (settled ρ.coins.level (drop t folds) rest))
