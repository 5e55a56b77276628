use mathlib.Core.Path.{ap, sym}
use Rattle.definition.specs.Field.{prime_of}
use Rattle.field.proofs.ByNumber.{last_prime}
use Rattle.field.proofs.modulus.Goals as goal

-- `field::modulus` meets its contract, by the three cases of the field's number. Assumes nothing.
pub returns-in-0 : goal.returns-in-0
unfolding prime_of
returns-in-0 c = sym (ap prime_of c.in-0.is)

pub returns-in-1 : goal.returns-in-1
unfolding prime_of
returns-in-1 c = sym (ap prime_of c.in-1.is)

pub returns-in_default : goal.returns-in_default
returns-in_default c = last_prime c.args.field c.in_default.in_default-own.rest.0.1 c.in_default.in_default-own.rest.1
