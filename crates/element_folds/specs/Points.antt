-- The inverses of points, which are words of the prime field, as elements.
use Rattle.std.specs.Prelude.{ℕ, List}
use Rattle.definition.specs.Field.{Quad, embed, spelling_of, number_in}
use Rattle.spelling.specs.Field3.{base}
use Rattle.folds.specs.PointsIn.{inverse_power_in}
use Rattle.spelling.specs.ByField.{ElementOf}

abbrev pub inverse_four : List ℕ → ℕ → Quad ℕ
inverse_four pw n = embed base (inverse_power_in 0 pw n)

abbrev pub inverse_at : (field : ℕ) → List ℕ → ℕ → ElementOf field
inverse_at field pw n = number_in (spelling_of field) (inverse_power_in 0 pw n)
