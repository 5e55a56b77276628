use mathlib.Core.Path.{◌≡◌}
use lib.ListN.{length}
use Rattle.decoder.specs.Steps.{Reduced}
use Rattle.decoder.proofs.reduce.Given as goal

abbrev pub invariant-loop-a : goal.invariant-loop-a
invariant-loop-a l =
    (length l.s ≡ length l.initial.s) × ((length l.w ≡ length l.initial.w) × Reduced l.field l.n l.least l.initial.s l.initial.w l.from l.t l.v l.b l.s l.w l.a)

abbrev pub decreases-loop-a : goal.decreases-loop-a
decreases-loop-a l = l.a
