use Prim.Native.Nat.{◌-◌}
use mathlib.Core.Path.{◌≡◌}
use lib.ListN.{take}
use Rattle.definition.specs.Block.{stream_of}
use Rattle.list_laws.specs.Overwriting.{overwrite}
use Rattle.reader.proofs.walk_sheet.Given as goal

abbrev pub invariant-loop-at : goal.invariant-loop-at
invariant-loop-at l = l.output ≡ overwrite l.initial.output 0 (take l.at (take 12 (stream_of l.file)))

abbrev pub decreases-loop-at : goal.decreases-loop-at
decreases-loop-at l = 12 - l.at
