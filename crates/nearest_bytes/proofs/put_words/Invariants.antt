use mathlib.Core.List.{flat_map}
use mathlib.Core.Path.{◌≡◌}
use lib.ListN.{length, take}
use Rattle.definition.specs.Block.{bytes_of}
use Rattle.list_laws.specs.Overwriting.{overwrite}
use Rattle.nearest_bytes.proofs.put_words.Given as goal

abbrev pub invariant-loop-i : goal.invariant-loop-i
invariant-loop-i l = (length l.output ≡ length l.initial.output) × (l.output ≡ overwrite l.initial.output 0 (flat_map bytes_of (take l.i l.words)))
