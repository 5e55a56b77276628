use mathlib.Core.Path.{refl, sym}
use native.Mathlib.Omega.{arith}
use lib.ListN.{get_or-eq_default}
use Rattle.batch_bytes.specs.BatchInput.{table_count}
use Rattle.batch_bytes.proofs.number.Goals as goal

-- `batch_bytes::number` meets its contract.
pub returns-then-words-lt13 : goal.returns-then-words-lt13
unfolding table_count
returns-then-words-lt13 c = (sym (get_or-eq_default c.args.words.now 0 {n = 12} (omega arith)), omega arith)

pub overflow_cast-result : goal.overflow_cast-result
overflow_cast-result c = omega (arith, c.shared_slice_known-1.given 12)

pub returns : goal.returns
unfolding table_count
returns c = (refl, omega (arith, c.shared_slice_known-1.given 12))
