use Rattle.std.proofs.Common.{◌≡◌, length}
use Rattle.inversions.proofs.Inverting.{Shared}
use Rattle.inversions.proofs.share.Given as goal

abbrev pub invariant-loop-i : goal.invariant-loop-i
invariant-loop-i g l =
    let A = g.A.Arithmetic in
    (length l.values ≡ length l.initial.values) × Shared (A.over l.a) (A.elements l.initial.values) (A.elements l.values) l.i (A.value l.left)
