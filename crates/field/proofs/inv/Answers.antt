use Rattle.field.proofs.ByNumber.{inverse_is, inverse_none}
use Rattle.field.proofs.inv.Goals as goal

pub returns-then-x-eq0 : goal.returns-then-x-eq0
returns-then-x-eq0 c =
    let a = c.args in
    inverse_none a.field a.a c.reduce-x.ensures c.if-x-eq0.true

pub returns : goal.returns
returns c =
    let a = c.args in
    inverse_is a.field a.a c.reduce-x.ensures c.if-x-eq0.false c.by_euclid.ensures
