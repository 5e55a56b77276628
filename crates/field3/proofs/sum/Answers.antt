use mathlib.Core.Path.{◌∙◌, ap}
use Rattle.spelling.specs.Field3.{field3}
use Rattle.field3.specs.Words.{quad_at, spelt}
use Rattle.field3.proofs.Reduced.{sum_is}
use Rattle.field3.proofs.sum.Goals as goal

pub returns : goal.returns
returns c =
    let a = c.args in
    c.words.ensures ∙ ap spelt (c.add.ensures ∙ (λ i. field3.◌⊕◌ (c.element.ensures i) (c.element-2.ensures i)) ∙ sum_is (quad_at a.x) (quad_at a.y))
