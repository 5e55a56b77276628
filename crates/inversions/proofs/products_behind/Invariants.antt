use Rattle.std.proofs.Common.{◌≡◌, ◌≤◌, length, drop}
use Rattle.inversions.specs.OneInversion.{product}
use Rattle.inversions.proofs.Inverting.{Behind}
use Rattle.inversions.proofs.products_behind.Given as goal

abbrev pub invariant-loop-i : goal.invariant-loop-i
invariant-loop-i g l =
    let A = g.A.Arithmetic in
    let F = A.over l.a in
    let v = A.elements l.values in
    (length l.behind ≡ length l.initial.behind)
    × ((length v ≤ length (A.elements l.behind)) × ((A.value l.p ≡ product F (drop l.i v)) × Behind F v (A.elements l.behind) l.i))
