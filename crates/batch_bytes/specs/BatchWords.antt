-- The parts of an order, counted.
use Rattle.std.specs.Prelude.{ℕ, ◌≤◌, List, length, drop}
use Rattle.std.proofs.Common.{arith, length-drop, length-take}
use Rattle.batch_bytes.specs.BatchInput.{bounds_part, table_count}

-- there are no more bounds than words
pub bounds_short : (w : List ℕ) → length (bounds_part w) ≤ length w
unfolding bounds_part
bounds_short w = omega (arith, length-take (table_count w) (drop 13 w), length-drop 13 w)
