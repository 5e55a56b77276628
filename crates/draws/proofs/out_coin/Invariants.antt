use Prim.Native.Nat.{◌-◌}
use Rattle.draws.specs.OutCoin.{OutLeft}
use Rattle.draws.proofs.out_coin.Given as goal

abbrev pub invariant-loop : goal.invariant-loop
invariant-loop l = OutLeft l.field l.pw l.scale l.before l.initial.current.v (64 - l.counter) l.current.v
