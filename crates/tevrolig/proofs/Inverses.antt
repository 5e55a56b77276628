-- What is answered and what stands in the places after an inversion, by whether an inverse was found. Assumes nothing.
use Rattle.std.specs.Prelude.{ℕ, Option, Some, None}
use mathlib.Core.List.{List}
use mathlib.Core.Option as math
use mathlib.Core.Path.{◌≡◌, sym, ap, ◌∙◌}
use Rattle.definition.specs.Field.{Quad}
use Rattle.quartic.specs.declared.Four.{Four}
use Rattle.quartic.specs.Meaning.{inverse_four, quad_of}
use Rattle.field3.specs.Words.{inverse_after3, inverse_number3, spelt}

module _ {r : Option Four} {d : math.Option (Quad ℕ)} (inverted : inverse_four r ≡ d) (before : List ℕ) where
  pub found_3 : {x : Four} → r ≡ Some x → (0 ≡ inverse_number3 d) × (spelt (quad_of x) ≡ inverse_after3 d before)
  unfolding inverse_number3 inverse_after3
  found_3 e = let q = sym (ap inverse_four e) ∙ inverted in (ap inverse_number3 q, ap (λ (o : math.Option (Quad ℕ)). inverse_after3 o before) q)

  pub nothing_3 : r ≡ None → (101 ≡ inverse_number3 d) × (before ≡ inverse_after3 d before)
  unfolding inverse_number3 inverse_after3
  nothing_3 e = let q = sym (ap inverse_four e) ∙ inverted in (ap inverse_number3 q, ap (λ (o : math.Option (Quad ℕ)). inverse_after3 o before) q)
