use borrow.Author.Rules.{rules}
use Rattle.definition.specs.Field.{prime_field, field_of}
use Rattle.field.proofs.Modular.{product_fits}
use Rattle.field.proofs.mul.Goals as goal

-- `field::mul` meets its contract. Assumes nothing.
pub overflow_mul-a : goal.overflow_mul-a
overflow_mul-a c = record { fits = product_fits 32 (search rules) (search rules) }

pub returns : goal.returns
unfolding field_of prime_field
returns c = c.reduce.ensures
