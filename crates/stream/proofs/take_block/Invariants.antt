use Prim.Native.Nat.{◌-◌}
use mathlib.Core.Path.{◌≡◌}
use lib.ListN.{length, take}
use Rattle.list_laws.specs.Overwriting.{overwrite}
use Rattle.layouts.specs.FileWords.{block_words}
use Rattle.stream.specs.Checks.{Summed}
use Rattle.stream.proofs.take_block.Given as goal

abbrev pub invariant-loop-w : goal.invariant-loop-w
invariant-loop-w l = Summed (block_words l.file l.b) l.b l.sum l.w × (l.words ≡ overwrite l.initial.words l.at (take l.w (block_words l.file l.b)))
