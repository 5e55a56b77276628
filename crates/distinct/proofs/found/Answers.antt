use native.Mathlib.Omega.{arith}
use mathlib.Core.Path.{sym, ap, ◌∙◌}
use Rattle.distinct.proofs.Turns.{found_here, found_later, found_nowhere}
use Rattle.distinct.proofs.found.Goals as goal

pub returns-then-same : goal.returns-then-same
returns-then-same g c =
    let A = g.A.Arithmetic in
    let F = A.over c.args.a in
    let a = c.args in
    let l = c.loop-i in
    found_here F.equal (A.elements a.xs.now) F.𝟘 l.i (A.value a.x) (omega (arith, c.count-i-end.ensures)) (sym c.if-same.true ∙ c.same.ensures ∙ ap (F.equal (A.value a.x)) c.get.ensures) ∙ l.invariant

pub loop-i-preserved : goal.loop-i-preserved
loop-i-preserved g c =
    let A = g.A.Arithmetic in
    let F = A.over c.args.a in
    let a = c.args in
    let l = c.loop-i in
    found_later F.equal (A.elements a.xs.now) F.𝟘 l.i (A.value a.x) (omega (arith, c.count-i-end.ensures)) (sym c.if-same.false ∙ c.same.ensures ∙ ap (F.equal (A.value a.x)) c.get.ensures) ∙ l.invariant

pub returns : goal.returns
returns g c =
    let A = g.A.Arithmetic in
    let a = c.args in
    let l = c.loop-i in
    found_nowhere (A.over a.a).equal (A.elements a.xs.now) l.i (A.value a.x) (omega (arith, c.count-i-end.ensures)) ∙ l.invariant
