use Rattle.quartic.specs.Meaning.{quad_of}
use Rattle.quartic.proofs.Inverse.{second_is}
use Rattle.quartic.proofs.norm_second.Goals as goal

pub returns : goal.returns
returns c =
    let a = c.args in
    second_is (quad_of a.x) c.mul.ensures c.mul-2.ensures c.add-s.ensures
    c.mul-3.ensures c.mul-4.ensures c.mul-5.ensures c.add-t.ensures c.sub.ensures
