use mathlib.Core.Path.{refl}
use borrow.Author.Rules.{rules}
use Rattle.field.proofs.Modular.{product_fits}
use Rattle.sums.proofs.Halves.{half_small}
use Rattle.sums.proofs.high_half.Goals as goal

-- `sums::high_half` meets its contract. Assumes nothing.
pub overflow_mul-result : goal.overflow_mul-result
overflow_mul-result c = record { fits = product_fits 32 (search rules) (search rules) }

pub returns : goal.returns
returns c = (refl, half_small _ (product_fits 32 (search rules) (search rules)))
