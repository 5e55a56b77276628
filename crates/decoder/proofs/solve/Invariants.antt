use mathlib.Core.Path.{◌≡◌}
use lib.ListN.{length}
use Rattle.decoder.proofs.Rounds.{Loop}
use Rattle.decoder.proofs.solve.Given as goal

abbrev pub invariant-loop-b : goal.invariant-loop-b
invariant-loop-b l = (length l.out ≡ length l.initial.out) × Loop l.field l.n l.least l.initial.s l.initial.w l.initial.a l.initial.t l.initial.v l.initial.b l.s l.w l.a l.t l.v l.b

abbrev pub decreases-loop-b : goal.decreases-loop-b
decreases-loop-b l = l.b
