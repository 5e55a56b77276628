-- Numerators divided by their denominators with one inversion: each is multiplied by all denominators before its own, then by the inverse of all denominators up
-- to its own.
use Rattle.std.specs.Prelude.{ℕ, zero, suc, ◌<◌, ◌≡◌, List, length, get_or}
use Rattle.std.proofs.Math.Option.{none, some}
use Rattle.definition.specs.Field.{Field}

module _ {A : Type 0} (F : Field A) where
  infixl 70 ◌⊗◌
  open F use {𝟘, 𝟙, ◌⊗◌, inverse}

  -- the product of the first m elements
  unfoldable pub product_before : List A → ℕ → A
  product_before xs zero = 𝟙
  product_before xs (suc m) = product_before xs m ⊗ get_or xs m 𝟘

  -- the first n denominators have inverses
  abbrev pub Divisible : List A → ℕ → Type 0
  Divisible bottoms n = (m : ℕ) → m < n → inverse (get_or bottoms m 𝟘) ≡ none → ⊥

  -- numerators, each multiplied by the denominators before its own, have become those numerators times the inverses of their own
  abbrev pub SharedOver : List A → List A → List A → Type 0
  SharedOver bottoms old new = (m : ℕ) (t u : A) → m < length old → get_or old m 𝟘 ≡ t ⊗ product_before bottoms m → inverse (get_or bottoms m 𝟘) ≡ some u → get_or new m 𝟘 ≡ t ⊗ u

  -- numerators have become their products with the inverses of their denominators
  abbrev pub DividedOver : List A → List A → List A → Type 0
  DividedOver bottoms old new = (m : ℕ) (u : A) → m < length old → inverse (get_or bottoms m 𝟘) ≡ some u → get_or new m 𝟘 ≡ get_or old m 𝟘 ⊗ u
