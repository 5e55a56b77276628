use Rattle.std.proofs.Common.{◌≡◌, ◌+◌, ◌*◌, length}
use Rattle.list_laws.specs.Filled.{FilledOver}
use Rattle.folds.specs.PointsIn.{inverse_as}
use Rattle.folds.proofs.Turns.{pairs}
use Rattle.folds.proofs.turn.Given as goal

abbrev pub invariant-loop-m : goal.invariant-loop-m
invariant-loop-m g l =
    let A = g.A.Arithmetic in
    let F = A.over l.a in
    let old = A.elements l.initial.values in
    (length l.values ≡ length l.initial.values)
    × FilledOver F.𝟘 (pairs F (A.numbered l.half) (A.value l.r) (λ i. inverse_as A.numbered l.pw (l.e + i * l.d)) l.h old) old (A.elements l.values) l.m
