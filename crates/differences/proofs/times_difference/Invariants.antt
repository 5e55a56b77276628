use Rattle.std.proofs.Common.{◌≡◌, length}
use Rattle.list_laws.specs.Filled.{FilledOver}
use Rattle.differences.proofs.Differing.{times_at}
use Rattle.differences.proofs.times_difference.Given as goal

abbrev pub invariant-loop-i : goal.invariant-loop-i
invariant-loop-i g l =
    let A = g.A.Arithmetic in
    let F = A.over l.a in
    (length l.out ≡ length l.initial.out)
    × FilledOver F.𝟘 (times_at F (A.elements l.xs) (A.elements l.initial.out) l.j) (A.elements l.initial.out) (A.elements l.out) l.i
