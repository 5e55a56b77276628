use Rattle.definition.specs.Polynomial.{evaluate, geometric}
use Rattle.polynomial.proofs.GeometricSum.{Turn}
use Rattle.polynomial.proofs.geometric_at.Given as goal

abbrev pub invariant-loop-n : goal.invariant-loop-n
invariant-loop-n g l =
    let A = g.A.Arithmetic in
    let F = A.over l.a in
    Turn F (A.laws l.a) (evaluate F (geometric F (A.value l.fn.c) l.e) (A.value l.fn.x)) (A.value l.s) (A.value l.b) (A.value l.q) l.n

abbrev pub decreases-loop-n : goal.decreases-loop-n
decreases-loop-n g l = l.n
