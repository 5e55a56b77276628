use Prim.Native.Nat.{◌+◌}
use native.Mathlib.Omega.{arith}
use mathlib.Core.Path.{sym, ap, ◌∙◌}
use lib.ListN.{length}
use lib.Seq.{length_front, length-take-le}
use Rattle.list_laws.specs.Zeros.{zeros, length_zeros}
use Rattle.definition.specs.Field.{field_of, prime_field}
use Rattle.definition.specs.Polynomial.{evaluate}
use Rattle.algebra.specs.PrimeField.{laws}
use Rattle.sums.specs.Sums.{products}
use Rattle.fractions.proofs.RootValues.{front_whole}
use Rattle.comparison.proofs.Comparing.{final_is}
use Rattle.comparison.proofs.final_value_one.Goals as goal

pub slice_bounds-shift_powers-end : goal.slice_bounds-shift_powers-end
slice_bounds-shift_powers-end c =
    sym (length-take-le (length c.args.coefficients.now + 1) (zeros 66) (omega (arith, length_zeros 66, c.if-n-lt66.true)))

pub shift_powers-requires : goal.shift_powers-requires
shift_powers-requires c =
    let p = c.requires.j_in_bounds in
    let long = length-take-le (length c.args.coefficients.now + 1) (zeros 66) (omega (arith, length_zeros 66, c.if-n-lt66.true)) in
    (p.0, (p.1.0, (p.1.1.1, omega (arith, long))))

pub slice_bounds-powers-end-then-n-lt66 : goal.slice_bounds-powers-end-then-n-lt66
slice_bounds-powers-end-then-n-lt66 c =
    let q = c.shift_powers in
    omega (arith, length_front (zeros 66) q.new.powers (length c.args.coefficients.now + 1) q.auto.powers, length_zeros 66, c.if-n-lt66.true)

pub slice_bounds-sum-end : goal.slice_bounds-sum-end
slice_bounds-sum-end c =
    let w = front_whole (length c.args.coefficients.now + 1) (zeros 66) c.shift_powers.new.powers (omega (arith, length_zeros 66, c.if-n-lt66.true)) c.shift_powers.auto.powers in
    sym (ap length w.0 ∙ w.1)

pub sum-requires : goal.sum-requires
sum-requires c =
    let w = front_whole (length c.args.coefficients.now + 1) (zeros 66) c.shift_powers.new.powers (omega (arith, length_zeros 66, c.if-n-lt66.true)) c.shift_powers.auto.powers in
    (omega (arith, ap length w.0, w.1), omega (arith, c.if-n-lt66.true))

pub returns-then-n-lt66 : goal.returns-then-n-lt66
unfolding field_of prime_field
returns-then-n-lt66 c =
    let a = c.args in
    let w = front_whole (length c.args.coefficients.now + 1) (zeros 66) c.shift_powers.new.powers (omega (arith, length_zeros 66, c.if-n-lt66.true)) c.shift_powers.auto.powers in
    let q = c.shift_powers in
    final_is (field_of a.field) (laws a.field) c.requires.power_table.0 a.pw.now a.scale a.k a.j a.coefficients.now q.new.powers c.requires.power_table.1 c.requires.j_in_bounds.1.1.0 (omega (arith, c.requires.j_in_bounds.0))
    (q.ensures a.field c.requires.power_table.0 c.requires.power_table.1) (omega (arith, w.1)) (c.sum.ensures ∙ ap (products (field_of a.field) a.coefficients.now) w.0)

pub returns : goal.returns
returns c =
    let a = c.args in
    c.value_at_number.ensures ∙ ap (evaluate (field_of a.field) a.coefficients.now) c.shift_point-x.ensures.value
