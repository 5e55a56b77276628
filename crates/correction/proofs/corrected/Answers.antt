use native.Mathlib.Omega.{arith}
use Rattle.correction.proofs.Cases.{room_three, room_one, corrected_three, corrected_one}
use Rattle.correction.proofs.corrected.Goals as goal

-- `correction::corrected` meets its contract. Assumes nothing.
pub corrected_in-requires : goal.corrected_in-requires
corrected_in-requires c =
    let a = c.args in let both = room_three a.field a.xs.now a.f.now a.out.now a.from a.count (omega arith) (c.requires.from_in_bounds, c.requires.count_in_bounds) in record { from_in_bounds = both.0; count_in_bounds = both.1 }

pub corrected_in-requires-else-field-eq3 : goal.corrected_in-requires-else-field-eq3
corrected_in-requires-else-field-eq3 c =
    let a = c.args in let both = room_one a.field a.xs.now a.f.now a.out.now a.from a.count (omega arith) (c.requires.from_in_bounds, c.requires.count_in_bounds) in record { from_in_bounds = both.0; count_in_bounds = both.1 }

pub returns-then-field-eq3 : goal.returns-then-field-eq3
returns-then-field-eq3 c =
    let a = c.args in
    let t = c.corrected_in in
    corrected_three a.field a.xs.now a.f.now a.out.now a.from a.count a.c t.new.out (omega arith) t.ensures

pub returns-else-field-eq3 : goal.returns-else-field-eq3
returns-else-field-eq3 c =
    let a = c.args in
    let t = c.corrected_in-else-field-eq3 in
    corrected_one a.field a.xs.now a.f.now a.out.now a.from a.count a.c t.new.out (omega arith) t.ensures
