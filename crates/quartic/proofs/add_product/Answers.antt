use Rattle.quartic.specs.Meaning.{quad_of}
use Rattle.quartic.proofs.Sums.{sum_is}
use Rattle.quartic.proofs.add_product.Goals as goal

pub returns : goal.returns
returns c =
    let a = c.args in
    sum_is (quad_of a.y) (quad_of a.x) (quad_of c.reduced-v.result) (quad_of c.reduced-u.result) c.reduced-v.ensures.a_value c.reduced-u.ensures.a_value
    c.eleven_times-b11.ensures.0 c.eleven_times-c11.ensures.0 c.eleven_times-d11.ensures.0 (quad_of a.s)
    c.word_of.ensures c.word_of-2.ensures c.word_of-3.ensures c.word_of-4.ensures
