use Rattle.std.proofs.Common.{◌≡◌, drop}
use Rattle.definition.specs.Polynomial.{pair}
use Rattle.samples.specs.Samples.{lookup}
use Rattle.samples.proofs.find.Given as goal

abbrev pub invariant-loop-i : goal.invariant-loop-i
invariant-loop-i g l =
    let A = g.A.Arithmetic in
    let equal = (A.over l.a).equal in
    let xs = A.elements l.xs in
    let ys = A.elements l.ys in
    lookup equal (A.value l.x) (pair (drop l.i xs) (drop l.i ys)) ≡ lookup equal (A.value l.x) (pair (drop l.k xs) (drop l.k ys))
