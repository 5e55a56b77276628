use native.Mathlib.Omega.{arith}
use mathlib.Core.Path.{◌≡◌}
use lib.ListN.{length, take}
use lib.Seq.{length-take-le}
use Rattle.decoder.proofs.Rounds.{no_quotient, quotient_found}
use Rattle.decoder.proofs.finish.Goals as goal

pub returns-in_default : goal.returns-in_default
returns-in_default c =
    let a = c.args in
    no_quotient a.field a.s.now a.w.now (length a.out.now) a.out.now c.inv-inversion.ensures c.in_default.is

pub divide-requires : goal.divide-requires
divide-requires c =
    let k : length (take c.top_of-width.result c.args.w.now) ≡ c.top_of-width.result = length-take-le c.top_of-width.result c.args.w.now c.top_of-width.ensures.high in
    (omega (arith, k, c.top_of-width.ensures.low), omega (arith, k, c.top_of-width.ensures.high, c.requires.width.1))

pub returns : goal.returns
returns c =
    let a = c.args in
    quotient_found a.field a.s.now a.w.now (length a.out.now) _ c.inv-inversion.ensures c.in-Some.is c.top_of-width.ensures c.requires.width.1 c.requires.elements c.divide.ensures
