use Prim.Native.Nat.{◌+◌, ◌-◌, ◌*◌, ◌≤◌}
use mathlib.Core.Path.{◌≡◌}
use lib.ListN.{length, drop}
use Rattle.batch_definition.specs.Batch.{sum_of}
use Rattle.batch_sheet.proofs.sum.Given as goal

abbrev pub invariant-loop-m : goal.invariant-loop-m
invariant-loop-m l = (l.sum + sum_of (drop l.m l.bounds) ≡ sum_of l.bounds) × (l.sum ≤ 4294967295 * l.m)
