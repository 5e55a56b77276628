use native.Mathlib.Omega.{arith}
use Rattle.generator.specs.Draws.{many_none, many_next}
use Rattle.generator.proofs.Generator.fill.Goals as goal

pub loop-i-init : goal.loop-i-init
loop-i-init c = let a = c.args in many_none a.limit a.self.v a.out.now

pub loop-i-preserved : goal.loop-i-preserved
loop-i-preserved c =
    let l = c.loop-i in
    let a = c.args in
    many_next a.limit l.i a.self.v l.out (omega arith) l.invariant c.below-d.ensures
