use Prim.Native.Nat.{◌-◌}
use lib.ListN.{length}
use Rattle.definition.specs.Field.{prime_field, field_of}
use Rattle.algebra.specs.PrimeField.{laws}
use Rattle.division.proofs.Dividing.{dividing_none}
use Rattle.division.proofs.factors.Goals as goal

pub raise_each-requires-clause-dividing : goal.raise_each-requires-clause-dividing
unfolding field_of prime_field
raise_each-requires-clause-dividing c =
    let a = c.args in
    dividing_none (field_of a.field) (laws a.field) c.powers.new.out (length a.w.now - 1) c.powers.ensures
