use Rattle.sheets.proofs.RuleLaws.{Tried}
use Rattle.sheets.proofs.permitted.Given as goal

abbrev pub invariant-loop-i : goal.invariant-loop-i
invariant-loop-i l = Tried l.initial.w l.j l.w l.values l.n l.i
