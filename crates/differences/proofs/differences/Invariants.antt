use Rattle.std.proofs.Common.{◌≡◌, length}
use Rattle.differences.proofs.Differing.{Differed}
use Rattle.differences.proofs.differences.Given as goal

abbrev pub invariant-loop-j : goal.invariant-loop-j
invariant-loop-j g l =
    let A = g.A.Arithmetic in
    (length l.out ≡ length l.initial.out) × Differed (A.over l.a) (A.elements l.xs) (A.elements l.out) l.j
