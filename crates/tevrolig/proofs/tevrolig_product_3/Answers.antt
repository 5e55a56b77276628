use mathlib.Core.Path.{refl}
use Rattle.tevrolig.proofs.tevrolig_product_3.Goals as goal

pub returns : goal.returns
returns c = record { value = refl; out_after = c.product.ensures }
