use native.Mathlib.Omega.{arith}
use Rattle.elements.proofs.Cases.{inside_three, inside_one, got_three, got_one}
use Rattle.elements.proofs.get.Goals as goal

-- `elements::get` meets its contract. Assumes nothing.
pub get-requires : goal.get-requires
get-requires c =
    inside_three c.args.field c.args.w.now c.args.i (omega arith) c.requires

pub returns-then-field-eq3 : goal.returns-then-field-eq3
returns-then-field-eq3 c =
    let a = c.args in
    got_three a.field a.w.now a.i c.get.result (omega arith) c.get.ensures

pub offset_bounds-w-i : goal.offset_bounds-w-i
offset_bounds-w-i c =
    omega (arith, inside_one c.args.field c.args.w.now c.args.i (omega arith) c.requires)

pub bounds-w-i : goal.bounds-w-i
bounds-w-i c =
    inside_one c.args.field c.args.w.now c.args.i (omega arith) c.requires

pub returns : goal.returns
returns c =
    let a = c.args in
    got_one a.field a.w.now a.i c.number.result (omega arith) c.number.ensures.a_value
