use borrow.Author.Rules.{rules}
use Rattle.field.proofs.Modular.{product_fits}
use Rattle.sums.proofs.low_half.Goals as goal

-- `sums::low_half` meets its contract. Assumes nothing.
pub overflow_mul-result : goal.overflow_mul-result
overflow_mul-result c = record { fits = product_fits 32 (search rules) (search rules) }
