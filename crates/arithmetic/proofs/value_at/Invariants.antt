use Rattle.std.proofs.Common.{◌≡◌, drop}
use Rattle.definition.specs.Polynomial.{evaluate}
use Rattle.arithmetic.proofs.value_at.Given as goal

abbrev pub invariant-loop-i : goal.invariant-loop-i
invariant-loop-i g l =
    let A = g.A.Arithmetic in
    A.value l.value ≡ evaluate (A.over l.a) (drop l.i (A.elements l.coefficients)) (A.value l.x)
