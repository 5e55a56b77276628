use mathlib.Core.Path.{ap, sym}
use Prim.Native.Nat.{ℕ, ◌%◌}
use Rattle.definition.specs.Field.{prime_of}
use Rattle.field.proofs.ByNumber.{last_prime}
use Rattle.field.proofs.reduce.Goals as goal

pub returns-in-0 : goal.returns-in-0
unfolding prime_of
returns-in-0 c =
    let a = c.args in
    ap (λ (n : ℕ). a.x % prime_of n) (sym c.in-0.is)

pub returns-in-1 : goal.returns-in-1
unfolding prime_of
returns-in-1 c =
    let a = c.args in
    ap (λ (n : ℕ). a.x % prime_of n) (sym c.in-1.is)

pub returns-in_default : goal.returns-in_default
returns-in_default c =
    let a = c.args in
    ap (λ (n : ℕ). a.x % n) (last_prime a.field c.in_default.in_default-own.rest.0.1 c.in_default.in_default-own.rest.1)
