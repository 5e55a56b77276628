use Prim.Native.Nat.{ℕ, ◌+◌, ◌-◌}
use native.Mathlib.Omega.{arith}
use mathlib.Core.Path.{◌≡◌, sym, ap, ◌∙◌}
use lib.ListN.{length, drop}
use Rattle.definition.specs.Field.{quads}
use Rattle.spelling.specs.Field3.{field3, laws₃}
use Rattle.quartic.specs.Meaning.{quad_of}
use Rattle.sums.specs.Sums.{products}
use Rattle.element_sums.specs.PowersFrom.{products_end, products_next}
use Rattle.element_sums.proofs.sum_four.Goals as goal

pub loop-i-init : goal.loop-i-init
loop-i-init c =
    let a = c.args in
    let n : c.count-i.result ≡ length (quads a.a.now) = c.count-i.ensures in
    c.zero-s.ensures ∙ products_end field3 (quads a.a.now) (quads a.b.now) ∙ ap (λ (m : ℕ). products field3 (drop m (quads a.a.now)) (drop m (quads a.b.now))) (sym n)

pub loop-i-preserved : goal.loop-i-preserved
loop-i-preserved c =
    let l = c.loop-i in
    let a = c.args in
    let n : c.count-i.result ≡ length (quads a.a.now) = c.count-i.ensures in
    let i : l.i - 1 + 1 ≡ l.i = omega arith in
    let x = c.get in
    let y = c.get-in-loop-i in
    let turned = laws₃.add_comm (quad_of l.s) (field3.◌⊗◌ (quad_of x.result) (quad_of y.result)) in
    let value = c.add_product-s.ensures ∙ turned ∙ (λ j. field3.◌⊕◌ (field3.◌⊗◌ (x.ensures j) (y.ensures j)) (quad_of l.s)) in
    products_next field3 (quads a.a.now) (quads a.b.now) (l.i - 1) (omega (arith, n)) (omega (arith, n))
    (l.invariant ∙ ap (λ (m : ℕ). products field3 (drop m (quads a.a.now)) (drop m (quads a.b.now))) (sym i)) value

pub returns : goal.returns
returns c =
    let l = c.loop-i in
    let a = c.args in
    let z : l.i ≡ 0 = omega arith in
    l.invariant ∙ ap (λ (m : ℕ). products field3 (drop m (quads a.a.now)) (drop m (quads a.b.now))) z
