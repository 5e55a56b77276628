use Prim.Native.Nat.{◌+◌, ◌-◌, ◌*◌}
use mathlib.Core.Path.{◌≡◌}
use lib.ListN.{take, drop}
use Rattle.definition.specs.Field.{field_of}
use Rattle.definition.specs.Polynomial.{quotient}
use Rattle.correction.proofs.by_schemes.Given as goal

abbrev pub invariant-loop-t : goal.invariant-loop-t
invariant-loop-t l =
    quotient (field_of l.field) (take (l.count - 4 * l.t) l.f) (drop (l.from + 4 * l.t) l.xs) ≡ quotient (field_of l.field) (take l.count l.initial.f) (drop l.from l.xs)
