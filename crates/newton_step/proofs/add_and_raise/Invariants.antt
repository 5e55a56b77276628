use Rattle.std.proofs.Common.{◌≡◌, length}
use Rattle.newton_step.proofs.Stepping.{Walked}
use Rattle.newton_step.proofs.add_and_raise.Given as goal

abbrev pub invariant-loop-i : goal.invariant-loop-i
invariant-loop-i g l =
    let A = g.A.Arithmetic in
    (length l.q ≡ length l.initial.q)
    × ((length l.v ≡ length l.initial.v)
    × Walked (A.over l.a) (A.value l.s) (A.value l.d) (A.elements l.initial.q) (A.elements l.initial.v) (A.elements l.q) (A.elements l.v) (A.value l.below) l.i)
