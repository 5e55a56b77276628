use native.Mathlib.Omega.{arith}
use mathlib.Core.Path.{sym, ◌∙◌}
use Rattle.definition.specs.Field.{spelling_of}
use Rattle.layouts.specs.Spellings.{count_one}
use Rattle.domain.specs.Elements.{as_first, not_inside}
use Rattle.domain.proofs.element_inside.Goals as goal

pub bounds-w-place : goal.bounds-w-place
bounds-w-place c = omega (arith, c.requires.1, count_one (spelling_of c.args.field))

pub returns-then-number : goal.returns-then-number
returns-then-number c =
    let a = c.args in
    as_first a.field a.w.now a.place a.pw.now a.scale c.requires.1 (sym c.number.ensures ∙ c.if-number.true) c.inside.ensures

pub returns-else-number : goal.returns-else-number
returns-else-number c = λ ω l p e n.
    let a = c.args in
    c.if-number.false ∙ not_inside a.field a.w.now a.place a.pw.now a.scale c.requires.1 (sym c.number.ensures ∙ c.if-number.false) ω l p e n
