use native.Mathlib.Omega.{arith}
use mathlib.Core.Path.{ap, ◌∙◌}
use Rattle.root_values.proofs.Dividing.{sharing_next}
use Rattle.root_values.proofs.share.Goals as goal

pub loop-m-preserved : goal.loop-m-preserved
loop-m-preserved g c =
    let A = g.A.Arithmetic in
    let F = A.over c.args.a in
    let L = A.laws c.args.a in
    let l = c.loop-m in
    let left = A.value l.left in
    let value = c.mul.ensures ∙ ap (λ x. F.◌⊗◌ x left) c.get.ensures in
    let next = c.mul-left.ensures ∙ L.mul_comm (A.value c.get-in-loop-m.result) left ∙ ap (F.◌⊗◌ left) c.get-in-loop-m.ensures in
    rw c.put.ensures
    (sharing_next F L (A.elements c.args.bottoms.now) (A.elements c.args.tops.now) (A.elements l.tops) l.m left l.invariant (omega arith) (omega (arith, c.count-m.ensures)) value next)
