use Rattle.std.proofs.Common.{ℕ, ◌≡◌, ◌-◌, ◌≤◌, ◌<◌, arith, refl, sym, ap, subst, ◌∙◌, length, drop, length-set}
use Rattle.inversions.specs.OneInversion.{product}
use Rattle.inversions.proofs.Inverting.{Behind, product_end, product_turn, behind_turn}
use Rattle.inversions.proofs.products_behind.Goals as goal

pub loop-i-init : goal.loop-i-init
loop-i-init g c =
    let A = g.A.Arithmetic in
    let F = A.over c.args.a in
    let v = A.elements c.args.values.now in
    let n : c.count-i.result ≡ length v = c.count-i.ensures in
    (refl, (c.requires, (c.one-p.ensures ∙ product_end F v ∙ ap (λ (m : ℕ). product F (drop m v)) (sym n), λ m u w. absurd (omega (arith, u, w, n)))))

pub loop-i-preserved : goal.loop-i-preserved
loop-i-preserved g c =
    let A = g.A.Arithmetic in
    let F = A.over c.args.a in
    let v = A.elements c.args.values.now in
    let l = c.loop-i in
    let n = l.invariant in
    let behind = A.elements l.behind in
    let p = A.value l.p in
    let new = c.put.ensures in
    let some : 0 < l.i = omega arith in
    let few : l.i ≤ length v = omega (arith, c.count-i.ensures) in (
      c.put.auto.w ∙ n.0,
      (
        omega (arith, ap length new ∙ length-set behind (l.i - 1) p, n.1.0),
        (
          product_turn F v l.i some few n.1.1.0 (c.mul-p.ensures ∙ ap (λ z. F.◌⊗◌ z p) c.get.ensures),
          subst (λ z. Behind F v z (l.i - 1)) (sym new) (behind_turn F v behind l.i p some few n.1.0 n.1.1.0 n.1.1.1),
        ),
      ),
    )

pub returns : goal.returns
returns g c =
    let A = g.A.Arithmetic in
    let n = c.loop-i.invariant in
    let none : c.loop-i.i ≡ 0 = omega arith in
    record {
      result_value = n.1.1.0 ∙ ap (λ (m : ℕ). product (A.over c.args.a) (drop m (A.elements c.args.values.now))) none;
      by_index = λ m u. n.1.1.1 m (omega arith) u;
    }
