use mathlib.Core.Path.{◌∙◌}
use Prim.Native.Nat.{◌-◌, ◌/◌}
use native.Mathlib.Omega.{arith}
use Rattle.definition.specs.Field.{field_of, power}
use Rattle.algebra.specs.PrimeField.{suited}
use Rattle.domain.specs.Roots.{root_by, size_positive}
use Rattle.domain.proofs.root_of.Goals as goal

pub overflow_sub-modulus : goal.overflow_sub-modulus
overflow_sub-modulus c = omega (arith, c.modulus.ensures, (suited c.args.field).large)

pub nonzero_div-modulus : goal.nonzero_div-modulus
nonzero_div-modulus c = omega (arith, size_positive c.requires)

pub returns : goal.returns
returns c =
    let a = c.args in
    let g = c.generator.ensures in
    let p = c.modulus.ensures in
    c.pow.ensures ∙ (λ i. power (field_of a.field) (g i) ((p i - 1) / a.size)) ∙ root_by a.field a.size
