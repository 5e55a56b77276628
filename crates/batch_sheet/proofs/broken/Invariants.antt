use Prim.Native.Nat.{◌-◌, ◌≤◌}
use mathlib.Core.Bool.{not}
use mathlib.Core.List.{map}
use mathlib.Core.Path.{◌≡◌}
use lib.ListN.{length}
use Rattle.batch_definition.specs.Batch.{batch_rules}
use Rattle.definition.specs.Lists.{first_true}
use Rattle.definition.specs.Sheet.{edition1, sheet_of}
use Rattle.batch_sheet.proofs.RuleLaws.{broken_from}
use Rattle.batch_sheet.proofs.broken.Given as goal

abbrev pub invariant-loop-m : goal.invariant-loop-m
invariant-loop-m l = (l.count ≤ length l.bounds) × (broken_from l.most l.count l.bounds l.m ≡ first_true 0 (map not (batch_rules (sheet_of edition1 l.w) l.count l.bounds)))
