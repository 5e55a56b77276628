use Prim.Native.Nat.{ℕ}
use native.Mathlib.Omega.{arith}
use mathlib.Core.Path.{◌≡◌, refl, subst}
use lib.ListN.{length}
use Rattle.definition.specs.Field.{prime_field, field_of}
use Rattle.list_laws.specs.Filled.{Filled, filled_first}
use Rattle.division.proofs.Dividing.{raised_at, raise_turn}
use Rattle.division.proofs.raise.Goals as goal

pub loop-w_i-init : goal.loop-w_i-init
unfolding field_of prime_field
loop-w_i-init c =
    let a = c.args in
    (filled_first (raised_at (field_of a.field) a.d a.w.now) a.w.now, refl)

pub loop-w_i-preserved : goal.loop-w_i-preserved
unfolding field_of prime_field
loop-w_i-preserved c =
    let l = c.loop-w_i in
    let a = c.args in
    raise_turn (field_of a.field) a.d a.w.now l.w l.below l.w_i-index (omega arith) l.invariant c.add_product.ensures

pub returns : goal.returns
unfolding field_of prime_field
returns c =
    let l = c.loop-w_i in
    let a = c.args in
    let all : l.w_i-index ≡ length a.w.now = omega arith in
    subst (λ (n : ℕ). Filled (raised_at (field_of a.field) a.d a.w.now) a.w.now l.w n) all l.invariant.0
