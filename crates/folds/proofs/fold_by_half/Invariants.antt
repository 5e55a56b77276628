use Rattle.std.proofs.Common.{◌≡◌, ◌*◌, ◌≤◌, ◌<◌, length, get_or}
use Rattle.folds.specs.Halving.{halving, exponent_of}
use Rattle.folds.specs.PointsIn.{inverse_as}
use Rattle.folds.proofs.Turns.{Left}
use Rattle.folds.proofs.fold_by_half.Given as goal

abbrev pub invariant-loop-count : goal.invariant-loop-count
invariant-loop-count g l =
    let A = g.A.Arithmetic in
    let F = A.over l.a in
    let half = A.numbered l.half in
    let inverses = inverse_as A.numbered l.pw in
    let old = A.elements l.initial.values in
    (0 < l.count)
    × ((l.count ≤ length old)
    × ((length l.values ≡ length l.initial.values)
    × ((length (A.elements l.values) ≡ length old)
    × ((l.first * l.count ≤ 65536)
    × ((l.step * l.count ≤ 65536)
    × Left F half inverses (halving F half inverses (exponent_of (length old)) l.e l.d (A.value l.initial.coin) (λ m. get_or old m F.𝟘)) l.count l.first l.step (A.value l.coin) (A.elements l.values))))))

abbrev pub decreases-loop-count : goal.decreases-loop-count
decreases-loop-count g l = l.count
