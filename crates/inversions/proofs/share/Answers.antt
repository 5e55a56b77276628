use Rattle.std.proofs.Common.{◌+◌, ◌<◌, arith, refl, sym, ap, subst, ◌∙◌, length}
use Rattle.inversions.proofs.Inverting.{Shared, shared_first, shared_next}
use Rattle.inversions.proofs.share.Goals as goal

pub loop-i-init : goal.loop-i-init
loop-i-init g c =
    let A = g.A.Arithmetic in
    (refl, shared_first (A.over c.args.a) (A.elements c.args.values.now) (A.value c.args.u) c.requires.values_in_bounds.1)

pub get-x-requires : goal.get-x-requires
get-x-requires g c = omega (arith, c.count-i-end.ensures, c.loop-i.invariant.1.same)

pub get-b-requires : goal.get-b-requires
get-b-requires g c = omega (arith, c.count-i-end.ensures, c.requires.values_in_bounds.0)

pub put-requires : goal.put-requires
put-requires g c = omega (arith, c.count-i-end.ensures, c.loop-i.invariant.1.same)

pub loop-i-preserved : goal.loop-i-preserved
loop-i-preserved g c =
    let A = g.A.Arithmetic in
    let F = A.over c.args.a in
    let v = A.elements c.args.values.now in
    let l = c.loop-i in
    let s = l.invariant.1 in
    let left = A.value l.left in
    let inside : l.i < length v = omega (arith, c.count-i-end.ensures) in (
      c.put.auto.w ∙ l.invariant.0,
      subst (λ z. Shared F v z (l.i + 1) (A.value c.mul-left.result)) (sym c.put.ensures)
          (shared_next F v (A.laws c.args.a) (g.met.A.Inversion.reduced c.args.a) (A.elements l.values) l.i left s inside
          (c.get-b.ensures ∙ c.requires.by_index l.i inside) c.mul.ensures (c.mul-left.ensures ∙ ap (λ z. F.◌⊗◌ left z) c.get-x.ensures)),
    )

pub returns : goal.returns
returns g c = λ m u. c.loop-i.invariant.1.done m (omega (arith, c.count-i-end.ensures))
