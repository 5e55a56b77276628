use Rattle.field.proofs.ByNumber.{power_of_is}
use Rattle.field.proofs.power.Goals as goal

pub returns : goal.returns
returns c =
    let a = c.args in
    power_of_is a.field a.a a.exponent c.pow.ensures c.answer.ensures
