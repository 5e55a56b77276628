use mathlib.Core.Path.{◌≡◌}
use lib.ListN.{take}
use Rattle.list_laws.specs.Overwriting.{overwrite}
use Rattle.word_input.specs.Input.{words_of}
use Rattle.word_input.proofs.place.Given as goal

abbrev pub invariant-loop-i : goal.invariant-loop-i
invariant-loop-i l = l.output ≡ overwrite l.initial.output 0 (take l.i (words_of l.bytes))
