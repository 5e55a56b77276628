-- What the answer of a public operation says, in the words of the definition. Assumes nothing.
use Rattle.std.specs.Prelude.{ℕ, Option, Some, None, Result, Ok, Err}
use Rattle.std.proofs.Math.Option as math
use Rattle.definition.specs.Field.{FieldAnswer, element, no_field, PowerAnswer, powered, in_no_field, InverseAnswer, found, no_inverse, unknown_field}
use Rattle.arithmetic.specs.Found.{found_as}
use Rattle.arithmetic.specs.declared.Powered.{Powered}
use Rattle.field.specs.declared.NoInverse.{NoInverse}
use Rattle.field.specs.declared.NoInverse.TheVariants.{Zero, NoField}

abbrev pub element_of : Option ℕ → FieldAnswer
element_of (Some x) = element x
element_of None = no_field

abbrev pub powered_of : Option (Powered ℕ) → PowerAnswer
powered_of (Some p) = powered p.value p.turns
powered_of None = in_no_field

abbrev pub inversion_of : Option ℕ → math.Option ℕ
inversion_of r = found_as (λ x. x) r

abbrev pub inverted_of : Result ℕ NoInverse → InverseAnswer
inverted_of (Ok x) = found x
inverted_of (Err Zero) = no_inverse
inverted_of (Err NoField) = unknown_field
