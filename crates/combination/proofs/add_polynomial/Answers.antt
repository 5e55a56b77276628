use Prim.Native.Nat.{◌<◌}
use native.Mathlib.Omega.{arith}
use mathlib.Core.Path.{◌≡◌, refl, ◌∙◌, subst}
use lib.ListN.{length}
use Rattle.list_laws.specs.Filled.{FilledOver, filled_first}
use Rattle.spelling.specs.ByField.{field_at, elements_at}
use Rattle.elements.specs.Meaning.{value_at}
use Rattle.combination.proofs.Cases.{next_entry}
use Rattle.combination.proofs.add_polynomial.Invariants.{coefficient}
use Rattle.combination.proofs.add_polynomial.Goals as goal

pub loop-j-init : goal.loop-j-init
loop-j-init c =
    let a = c.args in
    (refl, filled_first (coefficient a.field a.s a.f.now a.out.now) (elements_at a.field a.out.now))

pub get-requires : goal.get-requires
get-requires c = omega (arith, c.loop-j-test.true, c.count-n.ensures, c.loop-j.invariant.1.same)

pub get-requires-in-loop-j : goal.get-requires-in-loop-j
get-requires-in-loop-j c = omega (arith, c.loop-j-test.true, c.count-n.ensures, c.requires)

pub put-requires : goal.put-requires
put-requires c = omega (arith, c.loop-j-test.true, c.count-n.ensures, c.loop-j.invariant.1.same)

pub loop-j-preserved : goal.loop-j-preserved
loop-j-preserved c =
    let l = c.loop-j in
    let a = c.args in
    let F = field_at a.field in
    let n = l.invariant in
    let inside : l.j < length (elements_at a.field a.out.now) = omega (arith, c.loop-j-test.true, c.count-n.ensures) in (
      c.put.auto.w ∙ n.0,
      next_entry (coefficient a.field a.s a.f.now a.out.now) (elements_at a.field a.out.now) (elements_at a.field l.out) (elements_at a.field c.put.new.w) l.j n.1 inside
          (λ same. c.add.ensures ∙ (λ i. F.◌⊕◌ (c.get-in-loop-j.ensures i) ((c.mul-before.ensures ∙ (λ k. F.◌⊗◌ (value_at a.field a.s) ((c.get.ensures ∙ same) k))) i)))
          c.put.ensures,
    )

pub returns : goal.returns
returns c =
    let l = c.loop-j in
    let a = c.args in
    let end : l.j ≡ length (elements_at a.field a.out.now) = omega (arith, c.count-n.ensures, c.loop-j-test.false) in
    subst (FilledOver (field_at a.field).𝟘 (coefficient a.field a.s a.f.now a.out.now) (elements_at a.field a.out.now) (elements_at a.field l.out)) end l.invariant.1
