use Prim.Native.Nat.{ℕ}
use mathlib.Core.Path.{subst}
use mathlib.Core.List.{List}
use native.Mathlib.Omega.{arith}
use lib.Seq.{length-take-le, take_all}
use Rattle.line.specs.Text.{Extends, extends_none, extends_next}
use Rattle.line.proofs.text.Goals as goal

pub loop-i-init : goal.loop-i-init
loop-i-init c = extends_none c.args.line

pub put-longer-requires : goal.put-longer-requires
put-longer-requires c =
    let l = c.loop-i in
    omega (arith, length-take-le l.i c.args.bytes.now (omega arith), l.invariant.long)

pub loop-i-preserved : goal.loop-i-preserved
loop-i-preserved c =
    let l = c.loop-i in
    let a = c.args in
    extends_next a.line l.longer c.put-longer.result a.bytes.now l.i (omega arith) l.invariant c.put-longer.ensures

pub returns : goal.returns
returns c =
    let l = c.loop-i in
    let a = c.args in
    subst (λ (xs : List ℕ). Extends a.line xs l.longer) (take_all l.i a.bytes.now (omega arith)) l.invariant
