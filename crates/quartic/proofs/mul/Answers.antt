use mathlib.Core.Path.{◌∙◌}
use Rattle.quartic.specs.Meaning.{quad_of}
use Rattle.quartic.proofs.Sums.{nothing_in_front}
use Rattle.quartic.proofs.mul.Goals as goal

pub returns : goal.returns
returns c =
    let a = c.args in
    c.add_product.ensures ∙ nothing_in_front (quad_of a.x) (quad_of a.y)
