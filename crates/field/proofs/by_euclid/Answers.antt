use mathlib.Core.Path.{ap, ◌∙◌}
use Prim.Native.Nat.{ℕ, ◌-◌}
use native.Mathlib.Nat.{mod-lt}
use native.Mathlib.Omega.{arith}
use Rattle.definition.specs.Field.{field_of, power}
use Rattle.field.proofs.ByNumber.{prime_big}
use Rattle.field.proofs.Euclid.{euclid_first, euclid_below, euclid_again, euclid_last}
use Rattle.field.proofs.by_euclid.Goals as goal

pub loop-rest-init : goal.loop-rest-init
loop-rest-init c = let a = c.args in euclid_first a.field a.a c.modulus-p.ensures

pub overflow_sub-p : goal.overflow_sub-p
overflow_sub-p c =
    omega (arith, c.modulus-p.ensures, euclid_below c.args.field c.loop-rest.invariant)

pub loop-rest-smaller : goal.loop-rest-smaller
loop-rest-smaller c = mod-lt c.loop-rest.before (omega arith)

pub loop-rest-preserved : goal.loop-rest-preserved
loop-rest-preserved c =
    euclid_again c.args.field c.loop-rest.invariant c.modulus-p.ensures c.add_product-u.ensures

pub returns-then-rest-eq1 : goal.returns-then-rest-eq1
returns-then-rest-eq1 c =
    euclid_last c.args.field c.loop-rest.invariant c.if-rest-eq1.true

pub overflow_sub-p-2 : goal.overflow_sub-p-2
overflow_sub-p-2 c =
    omega (arith, c.modulus-p.ensures, prime_big c.args.field)

pub returns : goal.returns
returns c =
    let a = c.args in
    c.pow.ensures ∙ ap (λ (n : ℕ). power (field_of a.field) a.a (n - 2)) c.modulus-p.ensures
