use lib.ListN.{length}
use Rattle.definition.specs.Field.{field_of}
use Rattle.sums.specs.AtRoots.{every_nth}
use Rattle.sums.proofs.Halves.{Summed}
use Rattle.sums.proofs.sum_every.Given as goal

abbrev pub invariant-loop-i : goal.invariant-loop-i
invariant-loop-i l = Summed (every_nth (field_of l.field) l.f l.from l.stride (length l.b)) l.b l.i l.high l.low
