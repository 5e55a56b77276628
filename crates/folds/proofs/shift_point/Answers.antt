use Prim.Native.Nat.{◌+◌, ◌-◌, ◌*◌, ◌≤◌}
use mathlib.Core.Path.{refl}
use native.Mathlib.Nat.{mod-lt, mul-le-mul_left}
use native.Mathlib.Omega.{arith}
use lib.ListN.{length}
use Rattle.definition.specs.Field.{field_of, prime_field}
use Rattle.algebra.specs.PrimeField.{laws}
use Rattle.folds.specs.PointsIn.{shift_in, shift_power}
use Rattle.folds.proofs.shift_point.Goals as goal

pub overflow_mul-result-2 : goal.overflow_mul-result-2
overflow_mul-result-2 c =
    let a = c.args in
    let h : a.scale * a.j ≤ 4096 = omega arith in
    omega (arith, mul-le-mul_left a.k h)

pub overflow_add-result : goal.overflow_add-result
overflow_add-result c =
    let a = c.args in
    let h : a.scale * a.j ≤ 4096 = omega arith in
    omega (arith, mul-le-mul_left a.k h)

pub offset_bounds-pw-k : goal.offset_bounds-pw-k
offset_bounds-pw-k c =
    let a = c.args in
    omega (arith, mod-lt (a.k - 1 + a.k * (a.scale * a.j)) {m = length a.pw.now} (omega arith))

pub bounds-pw-k : goal.bounds-pw-k
bounds-pw-k c =
    let a = c.args in
    mod-lt (a.k - 1 + a.k * (a.scale * a.j)) {m = length a.pw.now} (omega arith)

pub returns : goal.returns
unfolding shift_in field_of prime_field
returns c =
    let a = c.args in record { value = refl; shift_point = λ field ω w. shift_power (field_of field) (laws field) w a.scale a.k a.j (omega arith) (omega arith) }
