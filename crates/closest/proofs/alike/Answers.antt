use mathlib.Core.Path.{ap₂, ◌∙◌}
use Rattle.spelling.specs.ByField.{ElementOf, field_at}
use Rattle.closest.proofs.alike.Goals as goal

pub returns : goal.returns
returns c =
    let a = c.args in
    c.same.ensures ∙ ap₂ (λ (x y : ElementOf a.field). (field_at a.field).equal x y) c.get-x.ensures c.get-y.ensures
