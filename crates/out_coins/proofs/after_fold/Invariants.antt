use Prim.Native.Nat.{◌-◌}
use Rattle.outcome.specs.Meaning.{place_of}
use Rattle.out_coins.proofs.Rounds.{InEach}
use Rattle.out_coins.proofs.after_fold.Given as goal

abbrev pub invariant-loop-i : goal.invariant-loop-i
invariant-loop-i l = InEach l.w l.alone l.words l.start (place_of l.equal) l.at l.scale l.i
