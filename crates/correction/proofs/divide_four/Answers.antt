use Prim.Native.Nat.{◌-◌}
use native.Mathlib.Omega.{arith}
use mathlib.Core.Path.{refl}
use mathlib.Core.List.{[], ◌∷◌}
use Rattle.definition.specs.Field.{field_of, prime_field}
use Rattle.algebra.specs.PrimeField.{laws}
use Rattle.division.specs.BackToFront.{unchanged}
use Rattle.correction.proofs.Division.{schemes_start, four_turn, schemes_end}
use Rattle.correction.proofs.divide_four.Goals as goal

pub loop-i-init : goal.loop-i-init
unfolding field_of prime_field
loop-i-init c =
    let a = c.args in
    (λ j h. refl, schemes_start (field_of a.field) (a.a ∷ a.b ∷ a.c ∷ a.d ∷ []) a.f.now a.f.now a.count)

pub loop-i-preserved : goal.loop-i-preserved
unfolding field_of prime_field
loop-i-preserved c =
    let l = c.loop-i in
    let a = c.args in
    let n = l.invariant in (
      unchanged 0 l.f a.f.now l.i l.fourth n.0 (omega arith),
      four_turn (field_of a.field) a.f.now l.f a.count l.i a.a a.b a.c a.d (omega arith) (omega arith) (omega arith) (omega arith)
          (n.0 (l.i - 1) (omega arith)) n.1 c.add_product-fourth.ensures c.add_product-third.ensures
          c.add_product-second.ensures c.add_product-first.ensures,
    )

pub returns : goal.returns
returns c =
    let l = c.loop-i in
    let a = c.args in
    schemes_end (field_of a.field) (laws a.field) (a.a ∷ a.b ∷ a.c ∷ a.d ∷ []) (l.first ∷ l.second ∷ l.third ∷ l.fourth ∷ []) a.f.now l.f
    a.count l.i refl (omega arith) (omega arith) l.invariant.1
