use Prim.Native.Nat.{◌-◌, ◌*◌}
use mathlib.Core.Path.{◌≡◌}
use mathlib.Core.List.{flat_map}
use lib.ListN.{length, take}
use Rattle.definition.specs.Block.{bytes_of}
use Rattle.list_laws.specs.Overwriting.{overwrite}
use Rattle.stream.specs.Checks.{Summed}
use Rattle.stream.specs.WrittenBlocks.{block_of}
use Rattle.stream.proofs.write_block.Given as goal

abbrev pub invariant-loop-i : goal.invariant-loop-i
invariant-loop-i l = Summed (block_of (take l.count l.words) l.b) l.b l.total l.i × (l.out ≡ overwrite l.initial.out (512 * l.b) (flat_map bytes_of (take l.i (block_of (take l.count l.words) l.b))))
