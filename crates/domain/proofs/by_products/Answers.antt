use mathlib.Core.Path.{◌≡◌}
use Prim.Native.Nat.{◌+◌}
use native.Mathlib.Omega.{arith}
use Rattle.definition.specs.Field.{field_of, power}
use Rattle.list_laws.specs.Filled.{filled_first, filled_next}
use Rattle.domain.proofs.Tables.{first_power, next_power}
use Rattle.domain.proofs.by_products.Goals as goal

pub loop-p-init : goal.loop-p-init
loop-p-init c =
    let a = c.args in
    (filled_first (λ k. power (field_of a.field) a.w (1 + k)) a.out.now, first_power a.field a.w)

pub loop-p-preserved : goal.loop-p-preserved
loop-p-preserved c =
    let a = c.args in
    let l = c.loop-p in
    let n = next_power a.field a.w l.p-index l.invariant.1 c.mul-x.ensures in
    let s : l.p-index + 1 ≡ 1 + l.p-index = omega arith in
    (filled_next (λ k. power (field_of a.field) a.w (1 + k)) a.out.now l.out l.p-index l.invariant.0 (omega arith) n, rw s n)

pub returns : goal.returns
returns c = λ k l. c.loop-p.invariant.0.passed k (omega arith)
