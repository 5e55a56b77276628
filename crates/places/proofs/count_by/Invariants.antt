use Prim.Native.Nat.{◌-◌}
use lib.ListN.{length, drop}
use Rattle.places.specs.Marks.{Counted, Marked}
use Rattle.places.proofs.count_by.Given as goal

abbrev pub invariant-loop-j : goal.invariant-loop-j
invariant-loop-j l = let i = length l.js - length l.yielded in Counted l.js l.count i × Marked 2048 (drop i l.js) l.marks
