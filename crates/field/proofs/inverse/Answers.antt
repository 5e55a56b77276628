use Rattle.std.specs.Prelude.{ℕ, Option, Some, None, ok_or}
use Rattle.std.proofs.Common.{◌≡◌, arith, ap, refl, ◌∙◌}
use Rattle.definition.specs.Field.{answer_found}
use Rattle.field.specs.Answer.{inversion_of, inverted_of}
use Rattle.field.specs.declared.NoInverse.TheVariants.{Zero}
use Rattle.field.proofs.ByNumber.{inverse_of_is, inverse_unknown}
use Rattle.field.proofs.inverse.Goals as goal

-- none found is said of a word that is 0
said : (o : Option ℕ) → inverted_of (ok_or o Zero) ≡ answer_found (inversion_of o)
unfolding answer_found
said (Some x) = refl
said None = refl

pub returns-then-field-ge3 : goal.returns-then-field-ge3
returns-then-field-ge3 c = let a = c.args in inverse_unknown a.field a.a (omega arith)

pub returns : goal.returns
returns c =
    let a = c.args in
    ap inverted_of c.ok_or.ensures.value ∙ said c.inv.result ∙ inverse_of_is a.field a.a (omega arith) c.inv.ensures
