use Rattle.std.proofs.Common.{◌≡◌, arith, refl, ◌∙◌, subst}
use Rattle.list_laws.specs.Filled.{filled_first}
use Rattle.newton_step.proofs.Stepping.{Walked, sum_at, raised_at, walk_turned}
use Rattle.newton_step.proofs.add_and_raise.Goals as goal

pub loop-i-init : goal.loop-i-init
loop-i-init g c =
    let A = g.A.Arithmetic in
    let F = A.over c.args.a in
    let s = A.value c.args.s in
    let d = A.value c.args.d in
    let q = A.elements c.args.q.now in
    let v = A.elements c.args.v.now in
    (refl, (refl, (filled_first (sum_at F s d q v) q, (filled_first (raised_at F s d q v) v, c.zero-below.ensures))))

pub get-c-requires : goal.get-c-requires
get-c-requires g c = omega (arith, c.loop-i.invariant.1.1.1.0.same, c.requires)

pub get-requires : goal.get-requires
get-requires g c = omega (arith, c.loop-i.invariant.1.1.0.same, c.requires)

pub put-requires : goal.put-requires
put-requires g c = omega (arith, c.loop-i.invariant.1.1.0.same, c.requires)

pub put-requires-in-loop-i : goal.put-requires-in-loop-i
put-requires-in-loop-i g c = omega (arith, c.loop-i.invariant.1.1.1.0.same, c.requires)

pub loop-i-preserved : goal.loop-i-preserved
loop-i-preserved g c =
    let A = g.A.Arithmetic in
    let a = c.args in
    let l = c.loop-i in (
      c.put.auto.w ∙ l.invariant.0,
      (
        c.put-in-loop-i.auto.w ∙ l.invariant.1.0,
        walk_turned (A.over a.a) (A.value a.s) (A.value a.d) (A.elements a.q.now) (A.elements a.v.now) (A.elements l.q) (A.elements l.v) (A.elements c.put.new.w)
            (A.elements c.put-in-loop-i.new.w) (A.value l.below) (A.value c.get-c.result) l.i
            (omega (arith, c.requires)) c.requires.1 l.invariant.1.1 c.get-c.ensures c.get.ensures c.add_product.ensures c.add_product-in-loop-i.ensures c.put.ensures c.put-in-loop-i.ensures,
      ),
    )

pub returns : goal.returns
returns g c =
    let A = g.A.Arithmetic in
    let a = c.args in
    let l = c.loop-i in
    let all : l.i ≡ a.count = omega arith in
    let w = subst (Walked (A.over a.a) (A.value a.s) (A.value a.d) (A.elements a.q.now) (A.elements a.v.now) (A.elements l.q) (A.elements l.v) (A.value l.below)) all l.invariant.1.1 in
    record { added = w.0; raised = w.1.0 }
