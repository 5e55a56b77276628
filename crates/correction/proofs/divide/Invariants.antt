use Prim.Native.Nat.{ℕ, ◌-◌, ◌<◌}
use mathlib.Core.Path.{◌≡◌}
use mathlib.Core.List.{[], ◌∷◌}
use lib.ListN.{take, drop, get_or}
use Rattle.correction.proofs.Division.{schemes}
use Rattle.correction.proofs.divide.Given as goal

abbrev pub invariant-loop-i : goal.invariant-loop-i
invariant-loop-i g l =
    let A = g.A.Arithmetic in
    let F = A.over l.a in
    ((j : ℕ) → j < l.i → get_or (A.elements l.f) j F.𝟘 ≡ get_or (A.elements l.initial.f) j F.𝟘)
    × (A.value l.above ∷ take (l.count - l.i) (drop l.i (A.elements l.f)) ≡ schemes F (A.value l.x ∷ []) (take (l.count - l.i) (drop l.i (A.elements l.initial.f))))
