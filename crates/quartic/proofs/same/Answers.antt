use Rattle.std.specs.Prelude.{Bool, true, false, ◌&&◌, eqb}
use Rattle.std.proofs.Common.{◌≡◌, refl, ◌∙◌}
use Rattle.definition.specs.Field.{prime_field, quartic}
use Rattle.quartic.proofs.same.Goals as goal

-- four tests, joined from the right or from the left
regrouped : (a b c d : Bool) → (a && (b && (c && d))) ≡ (((a && b) && c) && d)
regrouped true true c d = refl
regrouped true false c d = refl
regrouped false b c d = refl

pub returns : goal.returns
unfolding quartic prime_field
returns c =
    let x = c.args.x in
    let y = c.args.y in
    c.eq.ensures ∙ regrouped (eqb x.a y.a) (eqb x.b y.b) (eqb x.c y.c) (eqb x.d y.d)
