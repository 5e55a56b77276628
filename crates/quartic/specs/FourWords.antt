-- Elements of four words: the laws of their field. Assumes nothing.
use Rattle.std.specs.Prelude.{ℕ, ◌<◌, ◌≡◌}
use Rattle.std.proofs.Common.{arith}
use Rattle.std.proofs.Math.Option.{Option, none, some}
use Rattle.definition.specs.Field.{found_or, reciprocal, where_found, Quad, quartic, inverse_by, norm}
use Rattle.algebra.specs.Laws.{FieldLaws}
use Rattle.spelling.specs.Field3.{field3, base, laws₃}

abbrev pub laws_of_four : FieldLaws field3
laws_of_four = laws₃

pub wide_four : 0 < 4
wide_four = omega arith

-- an inverse is reduced, since it is a product
pub reduced_by_four : (x : Quad ℕ) → laws₃.reduce (reciprocal field3 x) ≡ reciprocal field3 x
unfolding quartic reciprocal found_or where_found inverse_by
reduced_by_four x = go (base.inverse (norm base 11 x))
  where
    go : (o : Option ℕ) → laws₃.reduce (found_or field3.𝟘 (where_found (inverse_by base 11 x) o)) ≡ found_or field3.𝟘 (where_found (inverse_by base 11 x) o)
    go none = laws₃.reduce_zero
    go (some i) = laws₃.reduce_mul _ _
