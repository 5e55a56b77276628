use mathlib.Core.Path.{◌∙◌}
use lib.ListN.{take}
use Rattle.batch_bytes.specs.BatchInput.{bounds_part}
use Rattle.batch_bytes.proofs.bounds.Goals as goal

pub returns : goal.returns
unfolding bounds_part
returns c = c.front.ensures ∙ (λ t. take (c.number.ensures.0 t) (c.after.ensures t))
