use native.Mathlib.Omega.{arith}
use Rattle.elements.proofs.Cases.{inside_three, inside_one, put_three, put_one}
use Rattle.elements.proofs.put.Goals as goal

-- `elements::put` meets its contract. Assumes nothing.
pub put-requires : goal.put-requires
put-requires c =
    inside_three c.args.field c.args.w.now c.args.i (omega arith) c.requires

pub offset_bounds-w-i : goal.offset_bounds-w-i
offset_bounds-w-i c =
    omega (arith, inside_one c.args.field c.args.w.now c.args.i (omega arith) c.requires)

pub bounds-w-i : goal.bounds-w-i
bounds-w-i c =
    inside_one c.args.field c.args.w.now c.args.i (omega arith) c.requires

pub returns-then-field-eq3 : goal.returns-then-field-eq3
returns-then-field-eq3 c =
    let a = c.args in
    put_three a.field a.w.now a.i a.x _ (omega arith) c.put.ensures

pub returns-else-field-eq3 : goal.returns-else-field-eq3
returns-else-field-eq3 c =
    let a = c.args in
    put_one a.field a.w.now a.i a.x (omega arith)
