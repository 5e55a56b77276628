use Rattle.std.proofs.Common.{◌≤◌, arith, refl, ap, ◌∙◌}
use Rattle.std.proofs.Math.Nat.{mul-le-mul_right}
use Rattle.list_laws.specs.Filled.{filled_first}
use Rattle.folds.proofs.Turns.{turned_pair}
use Rattle.folds.proofs.turn.Goals as goal

pub loop-m-init : goal.loop-m-init
loop-m-init g c =
    (refl, filled_first _ (g.A.Arithmetic.elements c.args.values.now))

pub overflow_mul-m : goal.overflow_mul-m
overflow_mul-m g c =
    let few : c.loop-m.m ≤ 16 = omega (arith, c.requires.pw_nonzero) in
    omega (arith, mul-le-mul_right c.args.d few, c.requires.e_bound)

pub overflow_add-e : goal.overflow_add-e
overflow_add-e g c =
    let few : c.loop-m.m ≤ 16 = omega (arith, c.requires.pw_nonzero) in
    omega (arith, mul-le-mul_right c.args.d few, c.requires.e_bound)

pub get-v-requires : goal.get-v-requires
get-v-requires g c = omega (arith, c.loop-m.invariant.1.same, c.requires.pw_nonzero)

pub get-w-requires : goal.get-w-requires
get-w-requires g c = omega (arith, c.loop-m.invariant.1.same, c.requires.pw_nonzero)

pub put-requires : goal.put-requires
put-requires g c = omega (arith, c.loop-m.invariant.1.same, c.requires.pw_nonzero)

pub loop-m-preserved : goal.loop-m-preserved
loop-m-preserved g c =
    let A = g.A.Arithmetic in (
      c.put.auto.w ∙ c.loop-m.invariant.0,
      turned_pair (A.over c.args.a) _ _ _ _ _ c.loop-m.m (A.elements c.loop-m.values) (omega arith) (omega (arith, c.requires.pw_nonzero)) c.loop-m.invariant.1
          (ap A.numbered c.inverse_power-y.ensures) c.get-v.ensures c.get-w.ensures c.join.ensures c.put.ensures,
    )

pub returns : goal.returns
returns g c =
    let l = c.loop-m in record { by_index = (λ m u. l.invariant.1.passed m (omega arith)); values_len_unchanged = l.invariant.1.same }
