use mathlib.Core.Path.{◌≡◌}
use Prim.Native.Nat.{◌+◌}
use Rattle.definition.specs.Field.{field_of, power}
use Rattle.list_laws.specs.Filled.{Filled}
use Rattle.domain.proofs.by_products.Given as goal

abbrev pub invariant-loop-p : goal.invariant-loop-p
invariant-loop-p l = Filled (λ k. power (field_of l.field) l.w (1 + k)) l.initial.out l.out l.p-index × (l.x ≡ power (field_of l.field) l.w l.p-index)
