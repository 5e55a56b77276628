use Rattle.places.specs.Marks.{Counted}
use Rattle.places.proofs.count_few.Given as goal

abbrev pub invariant-loop-i : goal.invariant-loop-i
invariant-loop-i l = Counted l.js l.count l.i
