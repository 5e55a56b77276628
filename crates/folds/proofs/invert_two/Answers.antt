use mathlib.Core.Path.{◌∙◌, ap}
use mathlib.Core.Option.{some}
use Prim.Native.Nat.{◌+◌, ◌/◌}
use Rattle.folds.proofs.Half.{half_found}
use Rattle.folds.proofs.invert_two.Goals as goal

pub returns : goal.returns
returns c = ap (λ p. some (p / 2 + 1)) c.modulus.ensures ∙ half_found _
