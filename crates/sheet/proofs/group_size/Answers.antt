use Prim.Native.Nat.{ℕ, ◌-◌}
use mathlib.Core.Path.{sym, ap}
use Rattle.definition.specs.Field.{prime_of}
use Rattle.sheet.proofs.RuleLaws.{other_prime}
use Rattle.sheet.proofs.group_size.Goals as goal

-- `sheet::group_size` meets its contract. One field at a time. Assumes nothing.
pub returns-in-0 : goal.returns-in-0
unfolding prime_of
returns-in-0 c = ap (λ (f : ℕ). prime_of f - 1) (sym c.in-0.is)

pub returns-in-1 : goal.returns-in-1
unfolding prime_of
returns-in-1 c = ap (λ (f : ℕ). prime_of f - 1) (sym c.in-1.is)

pub returns-in_default : goal.returns-in_default
returns-in_default c = other_prime _ c.in_default.in_default-own.rest.0.1 c.in_default.in_default-own.rest.1
