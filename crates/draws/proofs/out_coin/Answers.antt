use Prim.Native.Nat.{suc, ◌+◌, ◌-◌}
use mathlib.Core.Path.{◌≡◌, refl}
use native.Mathlib.Omega.{arith}
use Rattle.algebra.specs.PrimeField.{suited}
use Rattle.draws.specs.OutCoin.{one_after, out_again, out_here, out_last, zero_after}
use Rattle.draws.proofs.out_coin.Goals as goal

pub loop-init : goal.loop-init
loop-init c = λ h o l s. refl

pub below-d-requires : goal.below-d-requires
below-d-requires c = omega (arith, c.modulus-p.ensures, (suited c.args.field).large)

pub returns-then-allowed : goal.returns-then-allowed
returns-then-allowed c =
    let a = c.args in
    out_here a.field a.pw.now a.scale a.before a.generator.v (64 - c.loop.counter) c.loop.current.v c.modulus-p.ensures c.loop.invariant c.below-d.ensures c.allowed.ensures c.if-allowed.true

pub loop-preserved : goal.loop-preserved
loop-preserved c =
    let a = c.args in
    let some : 64 - c.loop.counter ≡ suc (64 - (c.loop.counter + 1)) = omega arith in
    out_again a.field a.pw.now a.scale a.before a.generator.v (64 - c.loop.counter) c.loop.current.v c.modulus-p.ensures c.loop.invariant c.below-d.ensures c.allowed.ensures (64 - (c.loop.counter + 1)) some c.if-allowed.false

pub below-last-requires : goal.below-last-requires
below-last-requires c = omega (arith, c.modulus-p.ensures, (suited c.args.field).large)

pub returns-then-allowed-2 : goal.returns-then-allowed-2
returns-then-allowed-2 c =
    let a = c.args in
    out_here a.field a.pw.now a.scale a.before a.generator.v (64 - c.loop.counter) c.loop.current.v c.modulus-p.ensures c.loop.invariant c.below-last.ensures c.allowed-2.ensures c.if-allowed-2.true

pub returns-then-before-eq0 : goal.returns-then-before-eq0
returns-then-before-eq0 c =
    let a = c.args in
    out_last a.field a.pw.now a.scale a.before a.generator.v (64 - c.loop.counter) c.loop.current.v c.modulus-p.ensures c.loop.invariant c.below-last.ensures c.allowed-2.ensures (omega arith) c.if-allowed-2.false (one_after a.before c.if-before-eq0.true)

pub returns-else-before-eq0 : goal.returns-else-before-eq0
returns-else-before-eq0 c =
    let a = c.args in
    out_last a.field a.pw.now a.scale a.before a.generator.v (64 - c.loop.counter) c.loop.current.v c.modulus-p.ensures c.loop.invariant c.below-last.ensures c.allowed-2.ensures (omega arith) c.if-allowed-2.false (zero_after a.before c.if-before-eq0.false)
