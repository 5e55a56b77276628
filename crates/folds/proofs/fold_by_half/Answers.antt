use Rattle.std.proofs.Common.{◌≡◌, ◌*◌, ◌/◌, ◌≤◌, ◌<◌, arith, refl, length, pow_pos, ◌∙◌}
use Rattle.std.proofs.Math.Nat.{mul-le-mul_left, mul-le-mul_right}
use Rattle.folds.specs.Halving.{exponent_of}
use Rattle.folds.proofs.Turns.{left_next, left_last}
use Rattle.folds.proofs.fold_by_half.Goals as goal

pub loop-count-init : goal.loop-count-init
loop-count-init g c =
    let n = length (g.A.Arithmetic.elements c.args.values.now) in
    let is : c.count-count.result ≡ n = c.count-count.ensures in
    let p = c.requires in (
      omega (arith, is, p.values_len.0, pow_pos (exponent_of n)),
      (
        omega (arith, is),
        (
          refl,
          (
            refl,
            (
              omega (arith, is, mul-le-mul_right c.count-count.result p.pw_nonzero.1.0, p.values_len.1),
              (omega (arith, is, mul-le-mul_right c.count-count.result p.pw_nonzero.1.1, p.values_len.1), record { log = exponent_of n; two = is ∙ p.values_len.0; same = refl }),
            ),
          ),
        ),
      ),
    )

pub turn-requires : goal.turn-requires
turn-requires g c =
    let l = c.loop-count in
    let n = l.invariant in record { pw_nonzero = (c.requires.pw_nonzero.0, (omega (arith, n.1.0, n.1.1.1.0), omega (arith, n.1.1.1.0, c.requires.values_len.1))); e_bound = (omega (arith, mul-le-mul_left l.first n.0, n.1.1.1.1.0), omega (arith, mul-le-mul_left l.step n.0, n.1.1.1.1.1.0)) }

pub overflow_mul-first : goal.overflow_mul-first
overflow_mul-first g c =
    let l = c.loop-count in
    omega (arith, mul-le-mul_left l.first l.invariant.0, l.invariant.1.1.1.1.0)

pub overflow_mul-step : goal.overflow_mul-step
overflow_mul-step g c =
    let l = c.loop-count in
    omega (arith, mul-le-mul_left l.step l.invariant.0, l.invariant.1.1.1.1.1.0)

pub loop-count-preserved : goal.loop-count-preserved
loop-count-preserved g c =
    let A = g.A.Arithmetic in
    let t = c.turn in
    let l = c.loop-count in
    let n = l.invariant in
    let many : 1 < l.count = omega arith in
    let halves : 2 * (l.count / 2) ≤ l.count = omega arith in (
      omega arith,
      (
        omega (arith, n.1.0),
        (
          t.auto.values ∙ n.1.1.0,
          (
            t.ensures.values_len_unchanged ∙ n.1.1.1.0,
            (
              omega (arith, mul-le-mul_left l.first halves, n.1.1.1.1.0),
              (
                omega (arith, mul-le-mul_left l.step halves, n.1.1.1.1.1.0),
                left_next (A.over c.args.a) _ _ _ many n.1.1.1.1.1.1 t.ensures.by_index c.mul-coin.ensures,
              ),
            ),
          ),
        ),
      ),
    )

pub get-requires : goal.get-requires
get-requires g c =
    let l = c.loop-count in
    omega (arith, l.invariant.0, l.invariant.1.0, l.invariant.1.1.1.0)

pub returns : goal.returns
returns g c = c.get.ensures ∙ left_last (g.A.Arithmetic.over c.args.a) _ _ _ (omega arith) c.loop-count.invariant.1.1.1.1.1.1
