use native.Mathlib.Omega.{arith}
use Rattle.elements.proofs.Cases.{room_three, room_one, at_four, at_word}
use Rattle.elements.proofs.at.Goals as goal

pub get-requires : goal.get-requires
get-requires c =
    room_three c.args.field c.args.w.now c.args.place (omega arith) c.requires

pub returns-then-field-eq3 : goal.returns-then-field-eq3
returns-then-field-eq3 c =
    let a = c.args in
    at_four a.field a.w.now a.place c.get.result (omega arith) c.get.ensures

pub bounds-w-place : goal.bounds-w-place
bounds-w-place c =
    room_one c.args.field c.args.w.now c.args.place (omega arith) c.requires

pub returns : goal.returns
returns c =
    let a = c.args in
    at_word a.field a.w.now a.place c.number.result (omega arith) c.number.ensures.a_value
