use native.Mathlib.Omega.{arith}
use mathlib.Core.Path.{◌∙◌, ap}
use Rattle.folds.specs.PointsIn.{shift_in}
use Prim.Native.Nat.{ℕ}
use Rattle.definition.specs.Field.{embed, quads}
use Rattle.definition.specs.Polynomial.{evaluate}
use Rattle.spelling.specs.Field3.{field3, base}
use Rattle.spelling.specs.ByField.{elements_at, field_at}
use Rattle.rounds.specs.Points.{shift_number}
use Rattle.comparison.proofs.Comparing.{value_one, value_three}
use Rattle.comparison.proofs.final_value.Goals as goal

pub returns-then-field-eq3 : goal.returns-then-field-eq3
returns-then-field-eq3 c =
    let a = c.args in
    let v = c.value_at_number in
    value_three a.field a.coefficients.now (shift_in 0 a.pw.now a.scale a.k a.j) v.result (omega (arith, c.if-field-eq3.true))
    (v.ensures ∙ ap (λ (x : ℕ). evaluate field3 (quads a.coefficients.now) (embed base x)) c.shift_point-point.ensures.value)
    ∙ ap (evaluate (field_at a.field) (elements_at a.field a.coefficients.now)) (shift_number a.field a.pw.now a.scale a.k a.j)

pub returns : goal.returns
returns c =
    let a = c.args in
    let v = c.number in
    value_one a.field a.coefficients.now (shift_in 0 a.pw.now a.scale a.k a.j) v.result c.if-field-eq3.false (v.ensures.a_value ∙ c.final_value_one.ensures)
    ∙ ap (evaluate (field_at a.field) (elements_at a.field a.coefficients.now)) (shift_number a.field a.pw.now a.scale a.k a.j)
