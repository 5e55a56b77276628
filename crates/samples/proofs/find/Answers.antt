use Rattle.std.proofs.Common.{arith, refl, ap, sym, ◌∙◌}
use Rattle.std.proofs.Math.Option.{some}
use Rattle.samples.proofs.Steps.{here, next, end}
use Rattle.samples.proofs.find.Goals as goal

pub loop-i-init : goal.loop-i-init
loop-i-init g c = refl

pub returns-then-same : goal.returns-then-same
returns-then-same g c =
    let A = g.A.Arithmetic in
    let F = A.over c.args.a in
    let l = c.loop-i in
    let e = ap (F.equal (A.value c.args.x)) (sym c.get.ensures) ∙ sym c.same.ensures ∙ c.if-same.true in
    ap some c.get-then-same.ensures ∙ here F.equal F.𝟘 (A.elements c.args.xs.now) (A.elements c.args.ys.now) l.i (A.value c.args.x) (omega (arith, c.count-i-end.ensures)) c.requires.1 e ∙ l.invariant

pub loop-i-preserved : goal.loop-i-preserved
loop-i-preserved g c =
    let A = g.A.Arithmetic in
    let F = A.over c.args.a in
    let l = c.loop-i in
    let e = ap (F.equal (A.value c.args.x)) (sym c.get.ensures) ∙ sym c.same.ensures ∙ c.if-same.false in
    next F.equal F.𝟘 (A.elements c.args.xs.now) (A.elements c.args.ys.now) l.i (A.value c.args.x) (omega (arith, c.count-i-end.ensures)) c.requires.1 e ∙ l.invariant

pub returns : goal.returns
returns g c =
    let A = g.A.Arithmetic in
    let F = A.over c.args.a in
    let l = c.loop-i in
    end F.equal F.𝟘 (A.elements c.args.xs.now) (A.elements c.args.ys.now) l.i (A.value c.args.x) (omega (arith, c.count-i-end.ensures)) ∙ l.invariant
