use Rattle.field.proofs.ByNumber.{sum_is}
use Rattle.field.proofs.sum.Goals as goal

pub returns : goal.returns
returns c =
    let a = c.args in
    sum_is a.field a.a a.b c.add.ensures c.answer.ensures
