use native.Mathlib.Omega.{arith}
use mathlib.Core.Path.{◌∙◌}
use Rattle.honest_words.proofs.Words.{even, values_three, values_one}
use Rattle.honest_words.proofs.values.Goals as goal

-- `honest_words::values` meets its contract. Assumes nothing.
pub values_in-requires : goal.values_in-requires
values_in-requires c =
    even c.args.out.now c.args.xs.now c.requires.0

pub returns-then-field-eq3 : goal.returns-then-field-eq3
returns-then-field-eq3 c =
    let a = c.args in
    let v = c.values_in in
    values_three a.field a.g.now a.xs.now v.new.out (omega arith) (v.auto.out ∙ c.requires.0) c.requires.1 v.ensures

pub returns-else-field-eq3 : goal.returns-else-field-eq3
returns-else-field-eq3 c =
    let a = c.args in
    let v = c.values_in-else-field-eq3 in
    values_one a.field a.g.now a.xs.now v.new.out (omega arith) v.ensures
