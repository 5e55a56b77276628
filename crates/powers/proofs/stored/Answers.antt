use mathlib.Core.Path.{ap, sym}
use Prim.Native.Nat.{ℕ}
use Rattle.definition.specs.Field.{prime_field, prime_of, field_of}
use Rattle.powers.specs.Table.{geometric_sequence, stored_powers}
use Rattle.powers.proofs.RootNumeral.{root_is}
use Rattle.powers.proofs.stored.Goals as goal

-- `powers::stored` meets its contract: that the numbers follow the table's rule is one computed test. Assumes nothing.
pub returns : goal.returns
unfolding stored_powers geometric_sequence field_of prime_field prime_of
returns c = ap (λ (ω : ℕ). geometric_sequence (field_of 2) ω 1 4096) (sym root_is)
