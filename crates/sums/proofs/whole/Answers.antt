use native.Mathlib.Omega.{arith}
use Rattle.definition.specs.Field.{prime_of}
use Rattle.sums.proofs.Halves.{remainders_fit, whole_is}
use Rattle.sums.proofs.whole.Goals as goal

pub overflow_mul-h : goal.overflow_mul-h
overflow_mul-h c =
    let a = c.args in
    record { fits = omega (arith, remainders_fit a.field a.high 4294967296 c.reduce-h.ensures c.reduce-unit.ensures) }

pub overflow_add-h : goal.overflow_add-h
overflow_add-h c =
    let a = c.args in
    record { fits = omega (arith, remainders_fit a.field a.high 4294967296 c.reduce-h.ensures c.reduce-unit.ensures) }

pub returns : goal.returns
returns c =
    let a = c.args in
    whole_is (prime_of a.field) a.high a.low c.reduce-h.ensures c.reduce-unit.ensures c.reduce.ensures
