use Rattle.std.proofs.Common.{arith, length}
use Rattle.arithmetic.specs.Parts.{even}
use Rattle.newton_step.proofs.Stepping.{value_is}
use Rattle.newton_step.proofs.value_by.Goals as goal

pub sum-requires : goal.sum-requires
sum-requires g c =
    let A = g.A.Arithmetic in
    let same = even A.width A.elements g.met.A.Arithmetic.counted c.powers.new.out c.args.room.now c.powers.auto.out in
    (omega (arith, same, c.requires.room_nonzero), omega (arith, same, c.requires.room_nonzero))

pub returns : goal.returns
returns g c =
    let A = g.A.Arithmetic in
    let a = c.args in
    value_is (A.over a.a) (A.laws a.a) (A.elements a.f.now) _ (A.value a.x) (length (A.elements a.room.now)) c.requires.room_nonzero.0 c.requires.zero_from c.powers.ensures c.sum.ensures
