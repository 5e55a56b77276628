use Prim.Native.Nat.{◌-◌, ◌≤◌}
use mathlib.Core.Path.{◌≡◌}
use lib.ListN.{length, take}
use Rattle.definition.specs.Block.{block_count}
use Rattle.list_laws.specs.Overwriting.{overwrite}
use Rattle.stream.specs.WrittenBlocks.{checked_front}
use Rattle.stream.proofs.write_file.Given as goal

abbrev pub invariant-loop-k : goal.invariant-loop-k
invariant-loop-k l = l.out ≡ overwrite l.initial.out 0 (checked_front (take l.count l.words) l.k)
