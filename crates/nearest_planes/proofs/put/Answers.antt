use native.Mathlib.Omega.{arith}
use mathlib.Core.Path.{refl}
use Rattle.nearest_planes.proofs.Turns.{put_end, put_first, put_next, put_others}
use Rattle.nearest_planes.proofs.put.Goals as goal

pub loop-i-init : goal.loop-i-init
loop-i-init c = put_first c.args.f.now c.args.out.now c.args.k

pub loop-i-preserved : goal.loop-i-preserved
loop-i-preserved c =
    let l = c.loop-i in
    put_next c.args.f.now c.args.out.now l.out c.args.k l.i l.invariant (omega arith) refl

pub returns : goal.returns
returns c =
    let a = c.args in record {
      out_after = put_end a.f.now a.out.now c.loop-i.out a.k c.loop-i.i c.loop-i.invariant (omega arith);
      by_index = put_others a.f.now a.out.now c.loop-i.out a.k c.loop-i.i c.loop-i.invariant c.requires.0;
    }
