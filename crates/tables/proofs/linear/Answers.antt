use Prim.Native.Nat.{ℕ}
use native.Mathlib.Omega.{arith}
use mathlib.Core.Path.{ap, ◌∙◌}
use lib.ListN.{length}
use Rattle.definition.specs.Field.{field_of}
use Rattle.list_laws.specs.Filled.{filled_first, filled_next}
use Rattle.tables.specs.Halving.{point_at}
use Rattle.tables.proofs.Sizes.{place_inside}
use Rattle.tables.proofs.linear.Goals as goal

pub loop-j-init : goal.loop-j-init
loop-j-init c =
    let a = c.args in
    filled_first (λ i. (field_of a.field).◌⊕◌ a.a ((field_of a.field).◌⊗◌ (point_at a.pw.now a.at a.step i) a.b)) a.out.now

pub point-requires : goal.point-requires
point-requires c =
    let l = c.loop-j in
    place_inside c.args.at c.args.step (length c.args.out.now) l.j c.requires (omega (arith, l.invariant.same))

pub loop-j-preserved : goal.loop-j-preserved
loop-j-preserved c =
    let l = c.loop-j in
    let a = c.args in
    let F = field_of a.field in
    filled_next (λ i. (field_of a.field).◌⊕◌ a.a ((field_of a.field).◌⊗◌ (point_at a.pw.now a.at a.step i) a.b)) a.out.now l.out l.j l.invariant (omega (arith, l.invariant.same)) (c.add_product.ensures ∙ ap (λ (x : ℕ). F.◌⊕◌ a.a (F.◌⊗◌ x a.b)) c.point.ensures)
