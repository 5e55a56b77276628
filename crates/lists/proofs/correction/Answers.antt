use native.Mathlib.Omega.{arith}
use Rattle.lists.proofs.Cases.{asked_three, asked_one, correcting_three, correcting_one}
use Rattle.lists.proofs.correction.Goals as goal

-- `lists::correction` meets its contract. Assumes nothing.
pub correct-requires : goal.correct-requires
correct-requires c =
    let a = c.args in
    let both = asked_three a.k a.from a.xs.now a.ys.now a.ac.now a.vg.now a.field (omega arith) (c.requires.from_in_bounds, (c.requires.k_nonzero, (c.requires.ac_len, c.requires.apart))) in
    record { from_in_bounds = both.0; k_nonzero = (both.1.0.0, (both.1.0.1, (omega (arith, both.0), omega arith))); ac_len = both.1.1.0; apart = both.1.1.1 }

pub returns-then-field-eq3 : goal.returns-then-field-eq3
returns-then-field-eq3 c =
    let a = c.args in
    let r = c.correct in
    record { columned = r.ensures.columned; correcting_over = correcting_three a.field a.from a.c r.result a.xs.now a.ys.now r.new.ac r.new.vg (omega arith) r.ensures.correcting_over }

pub overflow_sub-xs : goal.overflow_sub-xs
overflow_sub-xs c =
    let a = c.args in
    omega (arith, (asked_one a.k a.from a.xs.now a.ys.now a.ac.now a.vg.now a.field (omega arith) (c.requires.from_in_bounds, (c.requires.k_nonzero, (c.requires.ac_len, c.requires.apart)))).0)

pub correct-requires-then-xs-from-lt-FEW : goal.correct-requires-then-xs-from-lt-FEW
correct-requires-then-xs-from-lt-FEW c =
    let a = c.args in
    let both = asked_one a.k a.from a.xs.now a.ys.now a.ac.now a.vg.now a.field (omega arith) (c.requires.from_in_bounds, (c.requires.k_nonzero, (c.requires.ac_len, c.requires.apart))) in
    record { from_in_bounds = both.0; k_nonzero = (both.1.0.0, (both.1.0.1, (omega arith, omega arith))); ac_len = both.1.1.0; apart = both.1.1.1 }

pub returns-then-xs-from-lt-FEW : goal.returns-then-xs-from-lt-FEW
returns-then-xs-from-lt-FEW c =
    let a = c.args in
    let r = c.correct-then-xs-from-lt-FEW in
    record { columned = r.ensures.columned; correcting_over = correcting_one a.field a.from a.c r.result a.xs.now a.ys.now r.new.ac r.new.vg (omega arith) r.ensures.correcting_over }

pub correct-requires-2 : goal.correct-requires-2
correct-requires-2 c =
    let a = c.args in
    let both = asked_one a.k a.from a.xs.now a.ys.now a.ac.now a.vg.now a.field (omega arith) (c.requires.from_in_bounds, (c.requires.k_nonzero, (c.requires.ac_len, c.requires.apart))) in
    record { from_in_bounds = both.0; k_nonzero = (both.1.0.0, (both.1.0.1, (omega (arith, both.0), omega arith))); ac_len = both.1.1.0; apart = both.1.1.1 }

pub returns : goal.returns
returns c =
    let a = c.args in
    let r = c.correct-2 in
    record { columned = r.ensures.columned; correcting_over = correcting_one a.field a.from a.c r.result a.xs.now a.ys.now r.new.ac r.new.vg (omega arith) r.ensures.correcting_over }
