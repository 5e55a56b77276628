use Prim.Native.Nat.{ℕ}
use mathlib.Core.Path.{◌∙◌, ap}
use Rattle.definition.specs.Field.{Quad, power, power_turns3}
use Rattle.spelling.specs.Field3.{field3}
use Rattle.field3.specs.Words.{quad_at, spelt}
use Rattle.field3.proofs.Reduced.{power_is}
use Rattle.field3.proofs.power_turns.Goals as goal

pub returns : goal.returns
unfolding power_turns3
returns c =
    let a = c.args in
    let p = c.pow_turns-p in record { power_value = c.words.ensures ∙ ap spelt (p.ensures.value_value ∙ ap (λ (v : Quad ℕ). power field3 v a.exponent) c.element.ensures ∙ power_is (quad_at a.x) a.exponent); turns_value = p.ensures.turns_value }
