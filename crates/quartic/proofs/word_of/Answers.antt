use Rattle.quartic.specs.Meaning.{quad_of}
use Rattle.quartic.proofs.Sums.{word_is}
use Rattle.quartic.proofs.word_of.Goals as goal

pub returns : goal.returns
returns c =
    let a = c.args in
    word_is a.s (quad_of a.x) a.a a.b a.c a.d c.times.ensures.0 c.times-2.ensures.0 c.times-3.ensures.0 c.times-4.ensures.0 c.reduce.ensures
