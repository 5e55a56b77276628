use mathlib.Core.List.{List}
use Prim.Native.Nat.{ℕ, ◌+◌, ◌*◌, ◌%◌}
use lib.ListN.{length, get_or}
use Rattle.list_laws.specs.Filled.{Filled}
use Rattle.domain.proofs.from_stored.Given as goal

-- `domain::from_stored` meets its contract. The loop has filled the places up to e; the last is filled after it. Assumes nothing.
-- what stands at place k in the end
abbrev pub at : List ℕ → ℕ → ℕ → ℕ → ℕ
at table step n k = get_or table (step * ((1 + k) % n)) 0

abbrev pub invariant-loop-e : goal.invariant-loop-e
invariant-loop-e l = Filled (at l.table l.step (length l.initial.out)) l.initial.out l.out l.e
