use Rattle.sizes.proofs.SizeLaws.{CountedCoins}
use Rattle.sizes.proofs.coins_due.Given as goal

abbrev pub invariant-loop-i : goal.invariant-loop-i
invariant-loop-i l = CountedCoins l.w l.due l.i
