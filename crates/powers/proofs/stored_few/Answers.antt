use mathlib.Core.Path.{ap, sym}
use Prim.Native.Nat.{ℕ}
use Rattle.definition.specs.Field.{prime_field, prime_of, field_of}
use Rattle.powers.specs.Table.{geometric_sequence, every_nth, stored_powers}
use Rattle.powers.proofs.RootNumeral.{root_is}
use Rattle.powers.proofs.stored_few.Goals as goal

-- `powers::stored_few` meets its contract: that the numbers are every 16th of the table is one computed test. Assumes nothing.
pub returns : goal.returns
unfolding stored_powers geometric_sequence every_nth field_of prime_field prime_of
returns c = ap (λ (ω : ℕ). every_nth 16 256 (geometric_sequence (field_of 2) ω 1 4096)) (sym root_is)
