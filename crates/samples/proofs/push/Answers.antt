use native.Mathlib.Omega.{arith}
use Rattle.samples.proofs.Cases.{fits_three, fits_one, pushed_three, pushed_one}
use Rattle.samples.proofs.push.Goals as goal

-- `samples::push` meets its contract. Assumes nothing.
pub put_front-requires : goal.put_front-requires
put_front-requires c =
    let a = c.args in
    fits_three a.field a.xs.now a.ys.now a.k (omega arith) c.requires

pub returns-then-field-eq3 : goal.returns-then-field-eq3
returns-then-field-eq3 c =
    let a = c.args in
    let r = c.put_front in record { ys_after = pushed_three a.field a.xs.now a.ys.now a.k a.x a.y r.result r.new.xs r.new.ys (omega arith) r.ensures.ys_after; room = r.ensures.room }

pub put_front-requires-2 : goal.put_front-requires-2
put_front-requires-2 c =
    let a = c.args in
    fits_one a.field a.xs.now a.ys.now a.k (omega arith) c.requires

pub returns : goal.returns
returns c =
    let a = c.args in
    let r = c.put_front-2 in record { ys_after = pushed_one a.field a.xs.now a.ys.now a.k a.x a.y r.result r.new.xs r.new.ys (omega arith) r.ensures.ys_after; room = r.ensures.room }
