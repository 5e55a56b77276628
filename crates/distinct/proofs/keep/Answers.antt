use native.Mathlib.Omega.{arith}
use Rattle.distinct.proofs.Cases.{inside_three, inside_one, kept_three, kept_one}
use Rattle.distinct.proofs.keep.Goals as goal

-- `distinct::keep` meets its contract. Assumes nothing.
pub keep_in-requires : goal.keep_in-requires
keep_in-requires c =
    let a = c.args in
    inside_three a.field a.xs.now a.from (omega arith) c.requires

pub returns-then-field-eq3 : goal.returns-then-field-eq3
returns-then-field-eq3 c =
    let a = c.args in
    let k = c.keep_in in record { xs_after = kept_three a.field a.xs.now a.from a.x k.new.xs k.result (omega arith) k.ensures.xs_after; upper_bound = k.ensures.upper_bound }

pub keep_in-requires-2 : goal.keep_in-requires-2
keep_in-requires-2 c =
    let a = c.args in
    inside_one a.field a.xs.now a.from (omega arith) c.requires

pub returns : goal.returns
returns c =
    let a = c.args in
    let k = c.keep_in-2 in record { xs_after = kept_one a.field a.xs.now a.from a.x k.new.xs k.result (omega arith) k.ensures.xs_after; upper_bound = k.ensures.upper_bound }
