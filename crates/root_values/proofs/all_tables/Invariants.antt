use Prim.Native.Nat.{ℕ, ◌+◌, ◌*◌}
use mathlib.Core.Path.{◌≡◌}
use mathlib.Core.List.{List}
use lib.ListN.{get_or}
use Rattle.spelling.specs.ByField.{ElementOf, elements_at, field_at}
use Rattle.root_values.specs.Places.{PlacedOver}
use Rattle.root_values.proofs.all_tables.Given as goal

-- the values of the first coins are there
-- the table's value at root m of index j
abbrev pub value_at : (field : ℕ) → List ℕ → ℕ → ℕ → ℕ → ElementOf field → ElementOf field → Type 0
value_at field table step j m v w = v ≡ get_or (elements_at field table) (j + step * m) (field_at field).𝟘

abbrev pub invariant-loop-coin : goal.invariant-loop-coin
invariant-loop-coin l = PlacedOver (field_at l.field).𝟘 (value_at l.field l.table l.step) l.k l.js (elements_at l.field l.out) (elements_at l.field l.out) l.coin
