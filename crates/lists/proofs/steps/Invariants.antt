use Rattle.std.proofs.Common.{◌≡◌, length, drop}
use Rattle.newton_step.specs.Steps.{Through}
use Rattle.lists.proofs.steps.Given as goal

abbrev pub invariant-loop-i : goal.invariant-loop-i
invariant-loop-i g l =
    let A = g.A.Arithmetic in
    (length l.room ≡ length l.initial.room)
    × ((length l.q ≡ length l.initial.q)
    × ((length l.v ≡ length l.initial.v) × Through (A.over l.a) (drop l.i (A.elements l.xs)) (drop l.i (A.elements l.ys)) (A.elements l.q) (A.elements l.v)))
