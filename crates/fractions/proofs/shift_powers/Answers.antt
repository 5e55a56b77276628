use Prim.Native.Nat.{◌-◌, ◌*◌}
use mathlib.Core.Path.{◌∙◌, sym}
use lib.ListN.{length}
use Rattle.definition.specs.Field.{field_of}
use Rattle.definition.specs.Polynomial.{geometric}
use Rattle.algebra.specs.PrimeField.{laws}
use Rattle.folds.specs.PointsIn.{exponent_is}
use Rattle.fractions.proofs.shift_powers.Goals as goal

pub returns : goal.returns
returns c =
    let a = c.args in
    let p = c.powers_in in
    λ field ω w. p.ensures field ω w
    ∙ (λ i. geometric (field_of field) (exponent_is (field_of field) (laws field) ω (length a.pw.now) a.k (a.scale * a.j) w.round i) (sym p.auto.out i - 1))
