use mathlib.Core.Path.{◌∙◌, sym, ap}
use native.Mathlib.Omega.{arith}
use Rattle.definition.specs.Field.{field_of}
use Rattle.algebra.specs.Divisors.{never_none}
use Rattle.algebra.specs.PrimeField.{laws, opposite_signs}
use Rattle.field.specs.Answer.{inversion_of}
use Rattle.folds.specs.OneHalf.{two_nonzero}
use Rattle.element_folds.proofs.Cases.{power_three, power_one, fold_three, fold_one}
use Rattle.element_folds.proofs.fold_values.Goals as goal

-- `element_folds::fold_values` meets its contract. Assumes nothing.
-- the inversion of 2 finds one
pub returns-in_default : goal.returns-in_default
returns-in_default c =
    let field = c.args.field in
    absurd (never_none (field_of field) (laws field) _ (two_nonzero (field_of field) (laws field) (opposite_signs field)) (sym (ap inversion_of (sym c.in_default.is) ∙ c.invert_two.ensures)))

pub fold_by_half-requires : goal.fold_by_half-requires
fold_by_half-requires c = record { pw_nonzero = c.requires.pw_nonzero; values_len = power_three c.args.field c.args.values.now (omega arith) c.requires.values_len }

pub returns-then-field-eq3 : goal.returns-then-field-eq3
returns-then-field-eq3 c =
    let a = c.args in
    let f = c.fold_by_half in
    fold_three a.field a.values.now a.pw.now a.e a.d a.r f.result (omega arith) (ap inversion_of (sym c.in-Some.is) ∙ c.invert_two.ensures) f.ensures

pub fold_values-requires : goal.fold_values-requires
fold_values-requires c = record { pw_nonzero = c.requires.pw_nonzero; values_len = power_one c.args.field c.args.values.now (omega arith) c.requires.values_len }

pub returns : goal.returns
returns c =
    let a = c.args in
    fold_one a.field a.values.now a.pw.now a.e a.d a.r c.number.result (omega arith) c.number.ensures.a_value c.fold_values.ensures
