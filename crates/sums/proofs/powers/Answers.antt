use Prim.Native.Nat.{ℕ, ◌-◌}
use mathlib.Core.Path.{◌≡◌, ap, ◌∙◌}
use native.Mathlib.Omega.{arith}
use lib.ListN.{length, set, length-set}
use Rattle.definition.specs.Field.{field_of}
use Rattle.definition.specs.Polynomial.{geometric}
use Rattle.sums.proofs.PowerSteps.{first_two, first_alone}
use Rattle.sums.proofs.powers.Goals as goal

pub later_powers-requires : goal.later_powers-requires
later_powers-requires c =
    let a = c.args in
    let one = length-set a.out.now 0 1 in
    let two = length-set (set a.out.now 0 1) 1 c.reduce.result in
    (omega (arith, one, two), first_two a.field a.x a.out.now (omega (arith, one)) c.reduce.ensures)

pub shape_of-out-then-out-gt1 : goal.shape_of-out-then-out-gt1
shape_of-out-then-out-gt1 c =
    let a = c.args in
    omega (arith, length-set a.out.now 0 1, length-set (set a.out.now 0 1) 1 c.reduce.result, c.later_powers.auto.out)

pub returns-then-out-gt1 : goal.returns-then-out-gt1
returns-then-out-gt1 c =
    let a = c.args in
    let size : length (set (set a.out.now 0 1) 1 c.reduce.result) ≡ length a.out.now = length-set (set a.out.now 0 1) 1 c.reduce.result ∙ length-set a.out.now 0 1 in
    c.later_powers.ensures ∙ ap (λ (n : ℕ). geometric (field_of a.field) a.x (n - 1)) size

pub returns-else-out-gt1 : goal.returns-else-out-gt1
returns-else-out-gt1 c =
    let a = c.args in
    first_alone a.field a.x a.out.now (omega arith) (λ h. omega (arith, h, length-set a.out.now 0 1))
