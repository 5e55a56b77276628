-- An element of field 3 and the four words that spell it, a first; and an inverse for a caller that is answered a number and lends four places.
use Rattle.std.specs.Prelude.{ℕ, List, [], ◌∷◌, get_or}
use Rattle.std.proofs.Math.Option.{Option, none, some}
use Rattle.definition.specs.Field.{Quad}

abbrev pub quad_at : List ℕ → Quad ℕ
quad_at w = record { a = get_or w 0 0; b = get_or w 1 0; c = get_or w 2 0; d = get_or w 3 0 }

abbrev pub spelt : Quad ℕ → List ℕ
spelt x = x.a ∷ x.b ∷ x.c ∷ x.d ∷ []

-- an inverse: 0, or 101 where there is none
unfoldable pub inverse_number3 : Option (Quad ℕ) → ℕ
inverse_number3 none = 101
inverse_number3 (some x) = 0

-- what stands in the places after the call: its words, or what stood there before
unfoldable pub inverse_after3 : Option (Quad ℕ) → List ℕ → List ℕ
inverse_after3 none before = before
inverse_after3 (some x) before = spelt x
