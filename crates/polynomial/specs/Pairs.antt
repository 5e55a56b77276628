-- Samples given as two lists, of points and of values.
use Prim.Native.Nat.{suc}
use Rattle.std.specs.Prelude.{◌≡◌, length}
use Rattle.std.proofs.Math.Path.{ap, refl}
use mathlib.Core.List.{List, [], ◌∷◌, zip_with}
use Rattle.std.proofs.Common.{arith}
use Rattle.definition.specs.Polynomial.{points, pair}

module _ {A : Type 0} where
  pub pair_cons : (x y : A) (xs ys : List A) → pair (x ∷ xs) (y ∷ ys) ≡ record { point = x; value = y } ∷ pair xs ys
  unfolding pair zip_with
  pair_cons x y xs ys = refl

  pub pair_length : (xs ys : List A) → length ys ≡ length xs → length (pair xs ys) ≡ length xs
  unfolding pair zip_with
  pair_length [] ys e = refl
  pair_length (x ∷ xs) [] e = absurd (omega arith)
  pair_length (x ∷ xs) (y ∷ ys) e = ap suc (pair_length xs ys (omega arith))

  pub points_pair : (xs ys : List A) → length ys ≡ length xs → points (pair xs ys) ≡ xs
  unfolding points pair zip_with
  points_pair [] ys e = refl
  points_pair (x ∷ xs) [] e = absurd (omega arith)
  points_pair (x ∷ xs) (y ∷ ys) e = ap (λ (s : List A). x ∷ s) (points_pair xs ys (omega arith))
