use Rattle.std.proofs.Common.{◌≡◌, length}
use Rattle.sums.specs.Sums.{PowersTo}
use Rattle.sums.proofs.later_powers.Given as goal

abbrev pub invariant-loop-i : goal.invariant-loop-i
invariant-loop-i l = (length l.out ≡ length l.initial.out) × PowersTo l.field l.x l.out l.i
