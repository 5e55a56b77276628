use Rattle.std.proofs.Common.{[], arith, sym, subst, length, set}
use Rattle.list_laws.specs.Filled.{FilledOver}
use Rattle.newton_step.specs.Steps.{Through}
use Rattle.lists.proofs.Interpolating.{through_none, filled_zeros}
use Rattle.lists.proofs.start.Goals as goal

pub put-requires : goal.put-requires
put-requires g c = omega (arith, c.fill_elements-2.ensures.same, c.requires)

pub returns : goal.returns
returns g c =
    let A = g.A.Arithmetic in
    let F = A.over c.args.a in
    let L = A.laws c.args.a in
    let q = c.fill_elements in
    let v = c.fill_elements-2 in
    let oq = A.elements c.args.q.now in
    let ov = A.elements c.args.v.now in
    let zq = filled_zeros F L oq (A.elements q.new.out) (subst (λ z. FilledOver F.𝟘 (λ _. z) oq (A.elements q.new.out) (length oq)) c.zero.ensures q.ensures) in
    let zv = filled_zeros F L ov (A.elements v.new.out) (subst (λ z. FilledOver F.𝟘 (λ _. z) ov (A.elements v.new.out) (length ov)) c.zero-2.ensures v.ensures) in
    subst (λ z. Through F [] [] (A.elements q.new.out) z) (sym c.put.ensures)
    (subst (λ z. Through F [] [] (A.elements q.new.out) (set (A.elements v.new.out) 0 z)) (sym c.one.ensures)
    (through_none F L (A.elements q.new.out) (A.elements v.new.out) (omega (arith, v.ensures.same, c.requires)) zq zv))
