use native.Mathlib.Omega.{arith}
use mathlib.Core.Path.{refl, sym, ◌∙◌}
use Rattle.tree.specs.NodeLaws.{climb_next, climb_done}
use Rattle.tree.proofs.root_from.Goals as goal

pub loop-h-init : goal.loop-h-init
loop-h-init c = refl

pub loop-h-preserved : goal.loop-h-preserved
loop-h-preserved c =
    let l = c.loop-h in
    sym (climb_next c.args.path.now l.x l.j l.h (omega arith) c.node_bytes-sibling.ensures c.parent-x.ensures) ∙ l.invariant

pub returns : goal.returns
returns c =
    let l = c.loop-h in
    sym (climb_done c.args.path.now l.x l.j l.h (omega arith)) ∙ l.invariant
