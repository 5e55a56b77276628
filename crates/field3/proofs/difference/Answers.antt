use mathlib.Core.Path.{◌∙◌, ap}
use Rattle.spelling.specs.Field3.{field3}
use Rattle.field3.specs.Words.{quad_at, spelt}
use Rattle.field3.proofs.Reduced.{difference_is}
use Rattle.field3.proofs.difference.Goals as goal

pub returns : goal.returns
returns c =
    let a = c.args in
    c.words.ensures ∙ ap spelt (c.sub.ensures ∙ (λ i. field3.◌⊖◌ (c.element.ensures i) (c.element-2.ensures i)) ∙ difference_is (quad_at a.x) (quad_at a.y))
