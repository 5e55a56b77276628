use Rattle.field.proofs.ByNumber.{difference_is}
use Rattle.field.proofs.difference.Goals as goal

pub returns : goal.returns
returns c =
    let a = c.args in
    difference_is a.field a.a a.b c.sub.ensures c.answer.ensures
