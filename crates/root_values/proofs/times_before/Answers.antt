use Prim.Native.Nat.{◌<◌}
use native.Mathlib.Omega.{arith}
use mathlib.Core.Path.{ap, ◌∙◌}
use lib.ListN.{length}
use Rattle.list_laws.specs.Filled.{filled_first, filled_next}
use Rattle.root_values.proofs.Dividing.{before_first, before_next, times_turn}
use Rattle.root_values.proofs.times_before.Invariants.{timesAt}
use Rattle.root_values.proofs.times_before.Goals as goal

pub loop-m-init : goal.loop-m-init
loop-m-init g c =
    let A = g.A.Arithmetic in
    let F = A.over c.args.a in
    let old = A.elements c.args.tops.now in
    let w = A.elements c.args.bottoms.now in
    (filled_first (timesAt F w old) old, cc (before_first F w))

pub loop-m-preserved : goal.loop-m-preserved
loop-m-preserved g c =
    let A = g.A.Arithmetic in
    let F = A.over c.args.a in
    let L = A.laws c.args.a in
    let l = c.loop-m in
    let n = l.invariant in
    let old = A.elements c.args.tops.now in
    let w = A.elements c.args.bottoms.now in
    let all = A.value l.all in
    let f = timesAt F w old in
    let inside : l.m < length old = omega (arith, c.count-m-end.ensures) in
    let value = c.mul.ensures ∙ ap (λ x. F.◌⊗◌ x all) c.get.ensures in
    let next = c.mul-all.ensures ∙ L.mul_comm (A.value c.get-in-loop-m.result) all ∙ ap (F.◌⊗◌ all) c.get-in-loop-m.ensures in
    (rw c.put.ensures (filled_next f old (A.elements l.tops) l.m n.0 inside (times_turn F f old (A.elements l.tops) w l.m n.0 n.1 value)), before_next F w l.m n.1 next)
