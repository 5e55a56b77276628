use native.Mathlib.Omega.{arith}
use Rattle.places.specs.Marks.{count_start, count_done, few_new, few_old}
use mathlib.Core.Path.{ap}
use Rattle.std.specs.Prelude.{not}
use Rattle.places.proofs.count_few.Goals as goal

pub loop-i-init : goal.loop-i-init
loop-i-init c = count_start _

pub returns : goal.returns
returns c = count_done _ _ _ (omega arith) c.loop-i.invariant

pub loop-i-preserved-then-not-found : goal.loop-i-preserved-then-not-found
loop-i-preserved-then-not-found c = let l = c.loop-i in few_new _ _ _ (omega arith) l.invariant c.found.ensures (ap not c.if-not-found.true)

pub loop-i-preserved : goal.loop-i-preserved
loop-i-preserved c = let l = c.loop-i in few_old _ _ _ (omega arith) l.invariant c.found.ensures (ap not c.if-not-found.false)
