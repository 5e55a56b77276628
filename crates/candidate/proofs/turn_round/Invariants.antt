use Rattle.list_laws.specs.Filled.{Filled}
use Rattle.candidate.specs.Tables.{backwards}
use Rattle.candidate.proofs.turn_round.Given as goal

abbrev pub invariant-loop-i : goal.invariant-loop-i
invariant-loop-i l = Filled (backwards l.field l.pw l.values) l.initial.out l.out l.i
