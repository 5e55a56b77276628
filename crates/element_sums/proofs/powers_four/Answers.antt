use Prim.Native.Nat.{ℕ}
use native.Mathlib.Omega.{arith}
use mathlib.Core.Path.{◌≡◌, refl, ap, ◌∙◌}
use lib.ListN.{length, set, length-set}
use Rattle.definition.specs.Field.{quartic, embed, prime_field, quads, spelling_of, number_in}
use Rattle.spelling.specs.Field3.{field3, laws₃}
use Rattle.quartic.specs.Meaning.{quad_of}
use Rattle.quartic.specs.declared.Four.{Four}
use Rattle.elements.specs.Meaning.{value_in, value_at}
use Rattle.element_sums.specs.PowersFrom.{powers_first, powers_more, powers_full}
use Rattle.element_sums.proofs.powers_four.Goals as goal

-- `element_sums::powers_four` meets its contract. Assumes nothing.
number-one : (r : Four) → ((field : ℕ) → value_at field r ≡ number_in (spelling_of field) 1) → quad_of r ≡ field3.𝟙
unfolding value_in number_in spelling_of quartic embed prime_field
number-one r h = h 3

pub put-requires : goal.put-requires
put-requires c = c.requires

pub loop-i-init : goal.loop-i-init
loop-i-init c =
    let a = c.args in
    (refl, (refl, powers_first field3 (quad_of a.x) (quads a.out.now) (quads c.put.new.w) c.requires (number-one c.number.result c.number.ensures.by_index) c.put.ensures))

pub loop-i-preserved : goal.loop-i-preserved
loop-i-preserved c =
    let l = c.loop-i in
    let a = c.args in
    let r = quad_of c.mul.result in
    let new : quads c.put-in-loop-i.new.w ≡ set (quads l.out) l.i r = c.put-in-loop-i.ensures in
    let n = c.count-i-end.ensures in (
      c.put-in-loop-i.auto.w ∙ l.invariant.0,
      (
        ap length new ∙ length-set (quads l.out) l.i r ∙ l.invariant.1.0,
        powers_more field3 (quad_of a.x) (quads l.out) (quads c.put-in-loop-i.new.w) l.i (omega arith) (omega (arith, n, l.invariant.1.0)) l.invariant.1.1 c.get-before.ensures (c.mul.ensures ∙ laws₃.mul_comm (quad_of c.get-before.result) (quad_of a.x)) new,
      ),
    )

pub returns : goal.returns
returns c =
    let l = c.loop-i in
    let a = c.args in
    let first : length (quads c.put.new.w) ≡ length (quads a.out.now) = ap length c.put.ensures ∙ length-set (quads a.out.now) 0 (quad_of c.number.result) in
    powers_full field3 laws₃ (quad_of a.x) (quads l.out) l.i (length (quads a.out.now)) (l.invariant.1.0 ∙ first) c.requires (omega (arith, c.count-i-end.ensures, first)) l.invariant.1.1
