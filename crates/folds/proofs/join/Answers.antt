use Rattle.std.proofs.Common.{◌∙◌}
use Rattle.folds.proofs.Turns.{joined_by}
use Rattle.folds.proofs.join.Goals as goal

pub returns : goal.returns
returns g c =
    let A = g.A.Arithmetic in
    let L = A.laws c.args.a in
    joined_by (A.over c.args.a) (A.numbered c.args.half) (A.value c.args.r) (A.numbered c.args.y) (A.value c.args.v) (A.value c.args.w) c.add-sum.ensures c.sub-difference.ensures (c.scale-factor.ensures ∙ L.mul_comm (A.numbered c.args.y) (A.value c.args.r)) c.add_product.ensures c.scale.ensures
