use Rattle.algebra.specs.PowerLoop.{Turn}
use Rattle.arithmetic.proofs.pow_turns.Given as goal

abbrev pub invariant-loop-n : goal.invariant-loop-n
invariant-loop-n g l =
    let A = g.A.Arithmetic in
    Turn (A.over l.a) (A.laws l.a) (A.value l.fn.x) l.e (A.value l.r) (A.value l.b) l.n l.turns

abbrev pub decreases-loop-n : goal.decreases-loop-n
decreases-loop-n g l = l.n
