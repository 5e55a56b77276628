use Prim.Native.Nat.{ℕ, ◌+◌, ◌/◌, ◌%◌}
use mathlib.Core.Path.{sym, ap, subst}
use mathlib.Core.List.{List, [], ◌∷◌}
use native.Mathlib.Omega.{arith}
use lib.ListN.{length}
use Rattle.definition.specs.Line.{decimal}
use Rattle.line.specs.Decimal.{decimal_digit, decimal_more, decimal_shorter}
use Rattle.line.specs.Text.{Extends, extends_then}
use Rattle.line.proofs.+digits.Goals as goal

pub put-requires : goal.put-requires
put-requires t c = omega (arith, ap length (decimal_digit c.args.n c.if-n-lt10.true))

pub returns-then-n-lt10 : goal.returns-then-n-lt10
returns-then-n-lt10 t c =
    let a = c.args in
    subst (λ (xs : List ℕ). Extends a.line xs c.put.result) (sym (decimal_digit a.n c.if-n-lt10.true)) c.put.ensures

pub digits-requires : goal.digits-requires
digits-requires t c =
    let n = c.args.n in
    (omega arith, omega (arith, decimal_shorter n c.if-n-lt10.false))

pub put-requires-2 : goal.put-requires-2
put-requires-2 t c =
    let n = c.args.n in
    omega (arith, decimal_shorter n c.if-n-lt10.false, c.digits.ensures.long)

pub returns : goal.returns
returns t c =
    let a = c.args in
    let n = a.n in
    let d = c.digits in
    subst (λ (xs : List ℕ). Extends a.line xs c.put-2.result) (sym (decimal_more n c.if-n-lt10.false))
    (extends_then a.line d.result c.put-2.result (decimal (n / 10)) ((48 + n % 10) ∷ []) d.ensures c.put-2.ensures)
