use Rattle.quartic.specs.Meaning.{quad_of}
use Rattle.quartic.proofs.Inverse.{first_is}
use Rattle.quartic.proofs.norm_first.Goals as goal

pub returns : goal.returns
returns c =
    let a = c.args in
    first_is (quad_of a.x) c.mul.ensures c.mul-2.ensures c.mul-3.ensures c.add-s.ensures
    c.mul-4.ensures c.mul-5.ensures c.add-t.ensures c.mul-6.ensures c.sub.ensures
