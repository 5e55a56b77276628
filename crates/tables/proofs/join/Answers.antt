use Prim.Native.Nat.{◌+◌}
use native.Mathlib.Omega.{arith}
use Rattle.definition.specs.Field.{field_of}
use Rattle.tables.proofs.Sizes.{place_inside}
use Rattle.tables.proofs.Turns.{joined_none, joined_more}
use Rattle.tables.proofs.join.Goals as goal

pub loop-j-init : goal.loop-j-init
loop-j-init c =
    let a = c.args in
    joined_none (field_of a.field) a.pw.now a.at a.step a.h a.out.now

pub point-x-requires : goal.point-x-requires
point-x-requires c =
    place_inside c.args.at c.args.step (c.args.h + c.args.h) c.loop-j.j c.requires.1 (omega arith)

pub point-y-requires : goal.point-y-requires
point-y-requires c =
    place_inside c.args.at c.args.step (c.args.h + c.args.h) (c.args.h + c.loop-j.j) c.requires.1 (omega arith)

pub loop-j-preserved : goal.loop-j-preserved
loop-j-preserved c =
    let a = c.args in
    let l = c.loop-j in
    let more = joined_more (field_of a.field) a.pw.now a.at a.step a.h a.out.now l.out l.j (omega arith) c.requires.0 l.invariant in
    rw (c.turn.ensures, c.point-y.ensures, c.point-x.ensures) more
