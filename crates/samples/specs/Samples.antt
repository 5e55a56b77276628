-- Samples with different points, gathered one by one in front of those that are there.
use Rattle.std.specs.Prelude as prelude
use Rattle.std.specs.Prelude.{Some, None, ℕ, ◌+◌, ◌≤◌, Bool, cond, List, [], ◌∷◌, drop}
use Rattle.std.proofs.Math.Option.{Option, none, some}
use Rattle.definition.specs.Field.{Field}
use Rattle.definition.specs.Polynomial.{Sample, pair, distinct, clash}

-- what gathering gives: none where two equal points have different values, else the number from which on the samples stand
abbrev pub Gathered : Type 0
Gathered = prelude.Option ℕ

-- the definition's G of a list of samples: none where two equal points have different values, else one sample for each point
unfoldable pub distinct_or_clash : {A : Type 0} → Field A → List (Sample A) → Option (List (Sample A))
distinct_or_clash F samples = cond (clash F samples) none (some (distinct F samples))

-- putting one sample asks of a field only which elements are equal
module _ {A : Type 0} (equal : A → A → Bool) where
  -- the value of the first sample at x
  unfoldable pub lookup : A → List (Sample A) → Option A
  lookup x [] = none
  lookup x (s ∷ samples) = cond (equal x s.point) (some s.value) (lookup x samples)

  unfoldable pub put_by : Sample A → List (Sample A) → Option A → Option (List (Sample A))
  put_by s g none = some (s ∷ g)
  put_by s g (some v) = cond (equal s.value v) (some g) none

  -- a sample put in front of samples g, unless its point is there; none where it is there with another value
  unfoldable pub put : Sample A → List (Sample A) → Option (List (Sample A))
  put s g = put_by s g (lookup s.point g)

-- what an answer says of two lists: the samples that stand there from a number on
unfoldable pub kept : {A : Type 0} → Gathered → List A → List A → Option (List (Sample A))
kept None xs ys = none
kept (Some k) xs ys = some (pair (drop k xs) (drop k ys))

-- the samples that an answer names begin at most t places before number n
abbrev pub Room : ℕ → ℕ → Gathered → Type 0
Room n t None = Unit {0}
Room n t (Some k) = (n ≤ k + t) × (k ≤ n)
