use native.Mathlib.Omega.{arith}
use Rattle.definition.specs.Field.{field_of}
use Rattle.decoder.proofs.Turns.{add_start, add_turn, add_end}
use Rattle.decoder.proofs.add_multiple.Goals as goal

pub loop-i-init : goal.loop-i-init
loop-i-init c =
    let a = c.args in
    add_start (field_of a.field) a.at a.c a.f.now a.l.now

pub loop-i-preserved : goal.loop-i-preserved
loop-i-preserved c =
    let l = c.loop-i in
    let a = c.args in
    add_turn (field_of a.field) a.at a.c l.i a.f.now a.l.now l.l (omega arith) (omega arith) c.requires l.invariant c.add_product.ensures

pub returns : goal.returns
returns c =
    let l = c.loop-i in
    let a = c.args in
    add_end (field_of a.field) a.at a.c l.i a.f.now a.l.now (omega arith) l.invariant
