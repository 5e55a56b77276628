use Prim.Native.Nat.{◌+◌, ◌*◌}
use native.Mathlib.Omega.{arith}
use mathlib.Core.Path.{refl}
use lib.ListN.{length, get_or}
use Rattle.list_laws.specs.Filled.{filled_first, filled_next}
use Rattle.nearest_planes.proofs.Turns.{cut_end}
use Rattle.nearest_planes.proofs.cut.Goals as goal

pub loop-i-init : goal.loop-i-init
loop-i-init c = filled_first (λ j. get_or c.args.w.now (4 * j + c.args.k) 0) c.args.out.now

pub loop-i-preserved : goal.loop-i-preserved
loop-i-preserved c =
    let l = c.loop-i in
    filled_next (λ j. get_or c.args.w.now (4 * j + c.args.k) 0) c.args.out.now l.out l.i l.invariant (omega arith) refl

pub returns : goal.returns
returns c = cut_end c.args.w.now c.args.out.now c.loop-i.out c.args.k (length c.args.out.now) c.loop-i.invariant refl (omega arith)
