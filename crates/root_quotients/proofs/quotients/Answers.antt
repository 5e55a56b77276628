use native.Mathlib.Omega.{arith}
use mathlib.Core.Path.{refl}
use Rattle.definition.specs.Field.{field_of, prime_field}
use Rattle.root_quotients.proofs.Cases.{asked_three, asked_one, answer_three, answer_one}
use Rattle.root_quotients.proofs.quotients.Goals as goal

-- `root_quotients::quotients` meets its contract. Assumes nothing.
pub quotients_over-requires : goal.quotients_over-requires
quotients_over-requires c =
    let a = c.args in let both = asked_three a.pw.now a.ac.now a.vg.now a.at a.step a.powers.now a.tops.now a.bottoms.now a.field (omega arith) (c.requires.ac_len, (c.requires.rooted, c.requires.powers_len_bound)) in record { room = refl; ac_len = both.0; rooted = both.1.0; powers_len_bound = both.1.1 }

pub quotients_over-requires-else-field-eq3 : goal.quotients_over-requires-else-field-eq3
quotients_over-requires-else-field-eq3 c =
    let a = c.args in let both = asked_one a.pw.now a.ac.now a.vg.now a.at a.step a.powers.now a.tops.now a.bottoms.now a.field (omega arith) (c.requires.ac_len, (c.requires.rooted, c.requires.powers_len_bound)) in record { room = refl; ac_len = both.0; rooted = both.1.0; powers_len_bound = both.1.1 }

pub returns-then-field-eq3 : goal.returns-then-field-eq3
returns-then-field-eq3 c =
    let a = c.args in
    let r = c.quotients_over in let both = answer_three a.pw.now a.ac.now a.vg.now a.at a.step a.powers.now a.tops.now a.bottoms.now r.new.tops r.new.bottoms a.field (omega arith) (r.ensures.by_index, r.ensures.by_index_2) in record { by_index = both.0; by_index_2 = both.1 }

pub returns-else-field-eq3 : goal.returns-else-field-eq3
unfolding field_of prime_field
returns-else-field-eq3 c =
    let a = c.args in
    let r = c.quotients_over-else-field-eq3 in let both = answer_one a.pw.now a.ac.now a.vg.now a.at a.step a.powers.now a.tops.now a.bottoms.now r.new.tops r.new.bottoms a.field (omega arith) (r.ensures.by_index, r.ensures.by_index_2) in record { by_index = both.0; by_index_2 = both.1 }
