use native.Mathlib.Omega.{arith}
use Prim.Native.Nat.{◌+◌, ◌*◌}
use lib.ListN.{get_or}
use Rattle.honest_round.proofs.Rounds.{coin_is}
use Rattle.honest_round.proofs.coin.Goals as goal

pub overflow_mul-at : goal.overflow_mul-at
overflow_mul-at c =
    omega (arith, c.width.ensures.0 (get_or c.args.w.now 5 0 + c.args.n), c.requires.w_in_bounds)

pub at-requires : goal.at-requires
at-requires c =
    omega (arith, c.width.ensures.0 (get_or c.args.w.now 5 0 + c.args.n), c.requires.w_in_bounds)

pub returns : goal.returns
returns c =
    let a = c.args in
    let d = c.width in
    let n = get_or a.w.now 5 0 + a.n in
    coin_is (get_or a.w.now 0 0) a.coins.now (d.result * n) n (d.ensures.0 n) c.at.ensures
