use Prim.Native.Nat.{◌-◌}
use native.Mathlib.Omega.{arith}
use mathlib.Core.Path.{refl}
use lib.ListN.{length-set}
use lib.Seq.{paste-zero}
use Rattle.device_words.proofs.Putting.{all_put, one_more}
use Rattle.device_words.proofs.put.Goals as goal

pub loop-i-init : goal.loop-i-init
loop-i-init c = (omega arith, (refl, (c.requires, paste-zero c.args.out.now c.args.at c.args.words.now)))

pub loop-i-preserved : goal.loop-i-preserved
loop-i-preserved c =
    let a = c.args in
    let l = c.loop-i in
    let n = l.invariant.1 in
    (omega arith, (simp length-set n.0, (n.1.0, one_more a.out.now l.out a.words.now a.at l.i n.1.0 (omega arith) n.1.1)))

pub returns : goal.returns
returns c =
    let a = c.args in
    let l = c.loop-i in
    all_put a.out.now l.out a.words.now a.at l.i (omega arith) l.invariant.1.1.1
