-- THE VOCABULARY: the folds at all shift and final coins, in file order, and which of these coins settles the outcome. It holds no lemma and no proof.
use Rattle.std.specs.Prelude.{ℕ, ◌≤◌, ◌<◌, ◌≡◌, length, get_or, take}
use mathlib.Core.List.{List, ◌++◌, flat_map, map}
use Rattle.std.proofs.Math.Option.{none, some}
use Rattle.device_definition.specs.Coinwise.{next_fold, places_of_coin, settled}
use Rattle.definition.specs.Deciding.{Decision, Function, Place, answers, next_function}
use Rattle.definition.specs.Domain.{fold_at}
use Rattle.definition.specs.Field.{Field}
use Rattle.definition.specs.Lists.{range}
use Rattle.definition.specs.Polynomial.{distinct}
use Rattle.definition.specs.Sheet.{Level}
use Rattle.definition.specs.Transcript.{Rest, final, round}

-- every round has a shift coin, and there is a final coin
abbrev pub Coined : {A : Type 0} → Rest A → Type 0
Coined (final coefficients js) = 0 < length js
Coined (round ρ rest) = (0 < length ρ.coins.shifts) × Coined rest

-- the places of the first n coins
unfoldable pub places_to : {A : Type 0} → Level → (ℕ → List Place) → ℕ → Rest A → List Place
places_to b places n rest = flat_map (λ m. places_of_coin b places m rest) (range 0 n)

module _ {A : Type 0} (F : Field A) (ω : A) where
  -- the folds as deciding works them out: each round's by f_(i-1), then f_i by its G_i
  unfoldable pub all_folds : Level → (ℕ → A) → A → Rest A → List A
  all_folds b f r (final coefficients js) = map (fold_at F ω b f r) js
  all_folds b f r (round ρ rest) =
      map (fold_at F ω b f r) ρ.coins.shifts
      ++ all_folds ρ.coins.level (next_function F ω (distinct F (answers F ω b f r ρ)) ρ).value ρ.coins.fold rest

  -- Deciding comes to a decision with so many coins treated: their folds come out one after the other, none before the last of them settles anything, that one settles
  -- the outcome, and the places used are theirs.
  pub record Settles (b : Level) (f : Function A) (r : A) (used : List Place) (rest : Rest A) (decision : Decision) : Type 0 where
    pub coins : ℕ
    pub some_coin : 0 < coins
    pub due : coins ≤ length (all_folds b f.value r rest)
    pub next : (m : ℕ) → m < coins → next_fold F ω b f.value r (take m (all_folds b f.value r rest)) rest ≡ get_or (all_folds b f.value r rest) m F.𝟘
    pub waits : (m : ℕ) → 0 < m → m < coins → settled F ω b (take m (all_folds b f.value r rest)) rest ≡ none
    pub ends : settled F ω b (take coins (all_folds b f.value r rest)) rest ≡ some decision.outcome
    pub uses : decision.used ≡ used ++ places_to b f.places coins rest
