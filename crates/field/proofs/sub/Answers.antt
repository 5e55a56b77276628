use mathlib.Core.Path.{refl}
use native.Mathlib.Omega.{arith}
use Rattle.field.proofs.ByNumber.{sub_is}
use Rattle.field.proofs.sub.Goals as goal

pub returns : goal.returns
returns c =
    let a = c.args in
    sub_is a.field a.a a.b c.reduce.ensures (omega arith) refl refl refl
