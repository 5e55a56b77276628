-- The vanishing polynomial at a point, as a product.
use Rattle.std.specs.Prelude.{◌≡◌}
use Rattle.std.proofs.Common.{◌∙◌}
use Rattle.std.proofs.Math.Path.{sym, ap}
use mathlib.Core.List.{List, [], ◌∷◌}
use Rattle.definition.specs.Field.{Field}
use Rattle.definition.specs.Polynomial.{evaluate, vanishing}
use Rattle.algebra.specs.Laws.{FieldLaws}
use Rattle.algebra.specs.Division.{vanishing_nil, evaluate_vanishing}

module _ {A : Type 0} (F : Field A) where
  infixl 65 ◌⊖◌
  infixl 70 ◌⊗◌
  open F use {𝟙, ◌⊖◌, ◌⊗◌}

  -- the value at x of the points' vanishing polynomial: the product of x - a
  unfoldable pub vanish_at : List A → A → A
  vanish_at [] x = 𝟙
  vanish_at (a ∷ xs) x = (x ⊖ a) ⊗ vanish_at xs x

  pub vanish_ok : FieldLaws F → (xs : List A) (x : A) → vanish_at xs x ≡ evaluate F (vanishing F xs) x
  unfolding vanish_at
  vanish_ok L [] x = sym (vanishing_nil F L x)
  vanish_ok L (a ∷ xs) x = ap (λ (v : A). (x ⊖ a) ⊗ v) (vanish_ok L xs x) ∙ sym (evaluate_vanishing F L a xs x)
