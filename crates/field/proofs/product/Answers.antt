use Rattle.field.proofs.ByNumber.{product_is}
use Rattle.field.proofs.product.Goals as goal

pub returns : goal.returns
returns c =
    let a = c.args in
    product_is a.field a.a a.b c.mul.ensures c.answer.ensures
