use native.Mathlib.Nat.{le_of_eq}
use mathlib.Core.Path.{sym, ◌∙◌}
use Rattle.definition.specs.Field.{field_of}
use Rattle.division.proofs.Dividing.{products_cut}
use Rattle.division.proofs.behind.Goals as goal

pub returns : goal.returns
returns c =
    let a = c.args in
    c.sum.ensures ∙ products_cut (field_of a.field) c.min.result a.f.now a.w.now (le_of_eq (sym c.min.ensures))
