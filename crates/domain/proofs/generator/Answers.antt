use native.Mathlib.Omega.{arith}
use Rattle.domain.proofs.Tables.{small_generator, large_generator}
use Rattle.domain.proofs.generator.Goals as goal

-- `domain::generator` meets its contract. Assumes nothing.
pub returns-then-field-lt2 : goal.returns-then-field-lt2
returns-then-field-lt2 c = small_generator c.args.field (omega arith)

pub returns-else-field-lt2 : goal.returns-else-field-lt2
returns-else-field-lt2 c = large_generator c.args.field (omega arith)
