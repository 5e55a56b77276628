use mathlib.Core.Path.{◌∙◌, sym, ap}
use Prim.Native.Nat.{ℕ}
use lib.ListN.{length, get_or}
use Rattle.definition.specs.Field.{field_of, prime_field}
use Rattle.algebra.specs.Divisors.{never_none}
use Rattle.algebra.specs.PrimeField.{laws, opposite_signs}
use Rattle.field.specs.Answer.{inversion_of}
use Rattle.folds.specs.Halving.{halving, exponent_of}
use Rattle.folds.specs.OneHalf.{half_is, two_nonzero}
use Rattle.folds.specs.PointsIn.{inverse_power_in}
use Rattle.folds.proofs.fold_values.Goals as goal

-- the inversion of 2 finds one
pub returns-in_default : goal.returns-in_default
returns-in_default c =
    let field = c.args.field in
    absurd (never_none (field_of field) (laws field) _ (two_nonzero (field_of field) (laws field) (opposite_signs field)) (sym (ap inversion_of (sym c.in_default.is) ∙ c.invert_two.ensures)))

pub returns : goal.returns
unfolding field_of prime_field
returns c =
    let a = c.args in
    let F = field_of a.field in
    let n = exponent_of (length a.values.now) in
    c.fold_by_half.ensures
    ∙ ap (λ (u : ℕ). halving F u (inverse_power_in 0 a.pw.now) n a.e a.d a.r (λ m. get_or a.values.now m 0))
    (half_is F (laws a.field) (opposite_signs a.field) (ap inversion_of (sym c.in-Some.is) ∙ c.invert_two.ensures))
