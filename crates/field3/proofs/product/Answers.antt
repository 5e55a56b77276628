use mathlib.Core.Path.{◌∙◌, ap}
use Rattle.spelling.specs.Field3.{field3}
use Rattle.field3.specs.Words.{quad_at, spelt}
use Rattle.field3.proofs.Reduced.{product_is}
use Rattle.field3.proofs.product.Goals as goal

pub returns : goal.returns
returns c =
    let a = c.args in
    c.words.ensures ∙ ap spelt (c.mul.ensures ∙ (λ i. field3.◌⊗◌ (c.element.ensures i) (c.element-2.ensures i)) ∙ product_is (quad_at a.x) (quad_at a.y))
