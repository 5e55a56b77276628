use Prim.Native.Nat.{◌-◌}
use native.Mathlib.Omega.{arith}
use mathlib.Core.Path.{refl, ap, ◌∙◌}
use mathlib.Core.List.{[], ◌∷◌}
use lib.ListN.{take, drop, get_or}
use Rattle.division.specs.BackToFront.{unchanged}
use Rattle.correction.proofs.Division.{schemes_start, one_turn, schemes_end, quotient_one}
use Rattle.correction.proofs.Parts.{even}
use Rattle.correction.proofs.divide.Goals as goal

pub loop-i-init : goal.loop-i-init
loop-i-init g c =
    let A = g.A.Arithmetic in
    let a = c.args in
    let f = A.elements a.f.now in
    (λ j h. refl, ap (λ v. v ∷ take (a.count - a.count) (drop a.count f)) c.zero-above.ensures ∙ schemes_start (A.over a.a) (A.value a.x ∷ []) f f a.count)

pub loop-i-preserved : goal.loop-i-preserved
loop-i-preserved g c =
    let A = g.A.Arithmetic in
    let F = A.over c.args.a in
    let a = c.args in
    let l = c.loop-i in
    let n = l.invariant in
    let p = c.put.ensures in
    let f = A.elements l.f in
    let whole = even A.elements A.width g.met.A.Arithmetic.counted l.f a.f.now l.auto.f in
    let value = c.add_product-above.ensures ∙ ap (λ z. F.◌⊕◌ z (F.◌⊗◌ (A.value a.x) (A.value l.above))) c.get-coefficient.ensures in (
      λ j h. ap (λ w. get_or w j F.𝟘) p ∙ unchanged F.𝟘 f (A.elements a.f.now) l.i (A.value l.above) n.0 (omega arith) j h,
      ap (λ w. A.value c.add_product-above.result ∷ take (a.count - (l.i - 1)) (drop (l.i - 1) w)) p
          ∙ one_turn F (A.elements a.f.now) f a.count l.i (A.value a.x) (omega arith) (omega arith) (omega (arith, whole, c.requires)) c.requires (n.0 (l.i - 1) (omega arith)) n.1 value,
    )

pub returns : goal.returns
returns g c =
    let A = g.A.Arithmetic in
    let F = A.over c.args.a in
    let a = c.args in
    let l = c.loop-i in
    let f = A.elements a.f.now in
    schemes_end F (A.laws a.a) (A.value a.x ∷ []) (A.value l.above ∷ []) f (A.elements l.f) a.count l.i refl (omega arith) c.requires l.invariant.1
    ∙ quotient_one F (take a.count f) (A.value a.x)
