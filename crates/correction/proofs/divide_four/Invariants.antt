use Prim.Native.Nat.{ℕ, ◌-◌, ◌<◌}
use mathlib.Core.Path.{◌≡◌}
use mathlib.Core.List.{[], ◌∷◌}
use lib.ListN.{take, drop, get_or}
use Rattle.definition.specs.Field.{field_of}
use Rattle.correction.proofs.Division.{schemes}
use Rattle.correction.proofs.divide_four.Given as goal

abbrev pub invariant-loop-i : goal.invariant-loop-i
invariant-loop-i l =
    ((j : ℕ) → j < l.i → get_or l.f j 0 ≡ get_or l.initial.f j 0)
    × (l.first ∷ l.second ∷ l.third ∷ l.fourth ∷ take (l.count - l.i) (drop l.i l.f) ≡ schemes (field_of l.field) (l.a ∷ l.b ∷ l.c ∷ l.d ∷ []) (take (l.count - l.i) (drop l.i l.initial.f)))
