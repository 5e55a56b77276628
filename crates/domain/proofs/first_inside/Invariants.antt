use Rattle.domain.proofs.Walked.{Walked}
use Rattle.domain.proofs.first_inside.Given as goal

abbrev pub invariant-loop : goal.invariant-loop
invariant-loop l = Walked l.field l.w l.pw l.scale l.at l.count l.place l.counter
