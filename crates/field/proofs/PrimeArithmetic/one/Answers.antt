use Rattle.std.proofs.Common.{refl}
use Rattle.definition.specs.Field.{field_of, prime_field}
use Rattle.field.proofs.PrimeArithmetic.one.Goals as goal

pub returns : goal.returns
unfolding field_of prime_field
returns c = refl
