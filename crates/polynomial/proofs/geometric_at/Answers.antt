use mathlib.Core.Path.{ap, ◌∙◌}
use native.Mathlib.Omega.{arith}
use Rattle.polynomial.proofs.GeometricSum.{turn_first, turn_even, turn_odd, turn_last}
use Rattle.polynomial.proofs.geometric_at.Goals as goal
use Rattle.polynomial.proofs.geometric_at.Goals.{then-n-eq1, else-n-eq1}

-- that the sum begins with 1 is found by what it says, so that no name of a call stands in its way
pub loop-n-init : goal.loop-n-init
loop-n-init g c =
    let A = g.A.Arithmetic in
    let a = c.args in
    turn_first (A.over a.a) (A.laws a.a) (A.value a.c) (A.value a.x) a.e (search) c.mul-q.ensures

pub loop-n-preserved : goal.loop-n-preserved
loop-n-preserved g c =
    let A = g.A.Arithmetic in
    let l = c.loop-n in
    let F = A.over c.args.a in
    let L = A.laws c.args.a in
    elim c.if-n-eq1.branch [
      | then-n-eq1 w ↦ turn_odd F L l.invariant w.if-n-eq1.true (ap A.value w.s-is ∙ w.add-s.ensures) (ap A.value w.b-is ∙ w.mul-b.ensures) c.add_product-b.ensures c.mul-q-in-loop-n.ensures
      | else-n-eq1 w ↦ turn_even F L l.invariant w.if-n-eq1.false (ap A.value w.s-is) (ap A.value w.b-is) c.add_product-b.ensures c.mul-q-in-loop-n.ensures
    ]

pub returns : goal.returns
returns g c =
    let A = g.A.Arithmetic in
    let l = c.loop-n in
    let a = c.args in
    turn_last (A.over a.a) (A.laws a.a) l.invariant (omega arith)
