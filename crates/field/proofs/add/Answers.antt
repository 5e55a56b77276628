use Rattle.definition.specs.Field.{prime_field, field_of}
use Rattle.field.proofs.add.Goals as goal

pub returns : goal.returns
unfolding field_of prime_field
returns c = c.reduce.ensures
