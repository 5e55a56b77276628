use Rattle.std.proofs.Common.{arith, refl, ap, sym, subst, ◌∙◌}
use Rattle.algebra.specs.PowerLoop.{Turn, turn_first, turn_even, turn_odd, turn_last, turns_last, turns_few}
use Rattle.arithmetic.proofs.pow_turns.Goals as goal
use Rattle.arithmetic.proofs.pow_turns.Goals.{then-n-eq1, else-n-eq1}

pub loop-n-init : goal.loop-n-init
loop-n-init g c =
    let A = g.A.Arithmetic in
    let F = A.over c.args.a in
    subst (λ v. Turn F (A.laws c.args.a) (A.value c.args.x) c.args.e v (A.value c.args.x) c.args.e 0) (sym c.one-r.ensures) (turn_first F (A.laws c.args.a) (A.value c.args.x) c.args.e)

pub overflow_add-turns : goal.overflow_add-turns
overflow_add-turns g c =
    let A = g.A.Arithmetic in
    omega (arith, turns_few (A.over c.args.a) (A.laws c.args.a) 32 c.loop-n.invariant (omega arith) (omega arith))

pub loop-n-preserved : goal.loop-n-preserved
loop-n-preserved g c =
    let A = g.A.Arithmetic in
    let F = A.over c.args.a in
    let L = A.laws c.args.a in
    elim c.if-n-eq1.branch [
      | then-n-eq1 w ↦ turn_odd F L c.loop-n.invariant w.if-n-eq1.true (ap A.value w.r-is ∙ w.mul-r.ensures) c.mul-b.ensures refl
      | else-n-eq1 w ↦ turn_even F L c.loop-n.invariant (omega arith) w.if-n-eq1.false (ap A.value w.r-is) c.mul-b.ensures refl
    ]

pub returns : goal.returns
returns g c =
    let A = g.A.Arithmetic in
    let F = A.over c.args.a in
    let L = A.laws c.args.a in record { value_value = turn_last F L c.loop-n.invariant (omega arith); turns_value = turns_last F L c.loop-n.invariant (omega arith) }
