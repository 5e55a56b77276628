use Prim.Native.Nat.{◌+◌, ◌<◌}
use native.Mathlib.Omega.{arith}
use mathlib.Core.Path.{refl, ap, ◌∙◌}
use lib.ListN.{length, take}
use Rattle.definition.specs.Polynomial.{mul_poly, geometric}
use Rattle.correction.proofs.Products.{take_end, product_length, product_turn}
use Rattle.correction.proofs.Parts.{even}
use Rattle.correction.proofs.correct.Goals as goal

pub loop-i-init : goal.loop-i-init
loop-i-init g c = (refl, c.zero-last.ensures)

pub put-requires : goal.put-requires
put-requires g c =
    let A = g.A.Arithmetic in
    omega (arith, even A.elements A.width g.met.A.Arithmetic.counted c.loop-i.out c.args.out.now c.loop-i.auto.out, c.count-i-end.ensures)

pub loop-i-preserved : goal.loop-i-preserved
loop-i-preserved g c =
    let A = g.A.Arithmetic in
    let F = A.over c.args.a in
    let a = c.args in
    let l = c.loop-i in
    let out = A.elements l.out in
    let whole = even A.elements A.width g.met.A.Arithmetic.counted l.out a.out.now l.auto.out in
    let inside : l.i < length out = omega (arith, whole, c.count-i-end.ensures) in
    let r = product_turn F (A.laws a.a) (A.elements a.q.now) out (A.value a.c) a.e l.i c.requires.0 (whole ∙ c.requires.1) inside l.invariant.0 l.invariant.1
    c.minus_power-t.ensures c.shifted.ensures c.shifted-in-loop-i.ensures c.add_product-fresh.ensures c.add_product-last.ensures in
    (ap (take (l.i + 1)) c.put.ensures ∙ r.0, r.1)

pub returns : goal.returns
returns g c =
    let A = g.A.Arithmetic in
    let F = A.over c.args.a in
    let a = c.args in
    let l = c.loop-i in
    let p = mul_poly F (A.elements a.q.now) (geometric F (A.value a.c) a.e) in
    let n = product_length F (A.laws a.a) (A.elements a.q.now) (A.value a.c) a.e c.requires.0 in
    let whole = even A.elements A.width g.met.A.Arithmetic.counted l.out a.out.now l.auto.out in
    take_end (A.elements l.out) p l.i (omega (arith, whole, c.count-i-end.ensures)) (omega (arith, n, c.count-i-end.ensures, c.requires.1)) l.invariant.0
