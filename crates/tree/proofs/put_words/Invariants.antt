use mathlib.Core.Path.{◌≡◌}
use mathlib.Core.List.{flat_map}
use lib.ListN.{take}
use Rattle.definition.specs.Block.{bytes_of}
use Rattle.list_laws.specs.Overwriting.{overwrite}
use Rattle.tree.proofs.put_words.Given as goal

abbrev pub invariant-loop-i : goal.invariant-loop-i
invariant-loop-i l = l.out ≡ overwrite l.initial.out l.at (flat_map bytes_of (take l.i l.words))
