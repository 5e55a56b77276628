use lib.ListN.{take}
use Rattle.line.specs.Text.{Extends}
use Rattle.line.proofs.text.Given as goal

abbrev pub invariant-loop-i : goal.invariant-loop-i
invariant-loop-i l = Extends l.initial.longer (take l.i l.bytes) l.longer
