use mathlib.Core.Path.{◌≡◌, ap, ◌∙◌}
use native.Mathlib.Omega.{arith}
use Rattle.ranges.specs.Rounds.{divided}
use Rattle.ranges.proofs.Counting.{divided_none, divided_next}
use Rattle.ranges.proofs.divide.Goals as goal

pub loop-i-init : goal.loop-i-init
loop-i-init c = divided_none _ _

pub loop-i-preserved : goal.loop-i-preserved
loop-i-preserved c = divided_next _ _ _ c.loop-i.invariant

pub returns : goal.returns
returns c =
    let a = c.args in
    let e : c.loop-i.i ≡ a.times = omega arith in
    c.loop-i.invariant ∙ ap (divided a.x a.b) e
