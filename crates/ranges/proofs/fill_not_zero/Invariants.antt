use Prim.Native.Nat.{ℕ, ◌≤◌, ◌-◌}
use mathlib.Core.Path.{◌≡◌}
use mathlib.Core.Bool.{Bool, not}
use lib.Dec.{eqb}
use lib.ListN.{length}
use Rattle.ranges.proofs.FirstFrom.{first_from}
use Rattle.ranges.proofs.fill_not_zero.Given as goal

-- `ranges::fill_not_zero`: the first word that is not zero from `at` on is the first of all.
abbrev pub filled : ℕ → Bool
filled x = not (eqb x 0)

abbrev pub invariant-loop-at : goal.invariant-loop-at
invariant-loop-at l = first_from filled l.w l.at ≡ first_from filled l.w l.due
