use native.Mathlib.Omega.{arith}
use mathlib.Core.Path.{◌∙◌}
use lib.ListN.{length}
use Rattle.list_laws.specs.Filled.{filled_first, filled_next}
use Rattle.list_laws.specs.Lists.{by_number}
use Rattle.candidate.specs.Tables.{backwards}
use Rattle.candidate.proofs.turn_round.Goals as goal

pub loop-i-init : goal.loop-i-init
loop-i-init c =
    let a = c.args in
    filled_first (backwards a.field a.pw.now a.values.now) a.out.now

pub loop-i-preserved : goal.loop-i-preserved
loop-i-preserved c =
    let l = c.loop-i in
    let a = c.args in
    filled_next (backwards a.field a.pw.now a.values.now) a.out.now l.out l.i l.invariant (omega arith) c.mul.ensures

pub returns : goal.returns
returns c =
    let l = c.loop-i in
    let a = c.args in
    by_number 0 l.out (backwards a.field a.pw.now a.values.now) (length a.pw.now) (l.invariant.same ∙ c.requires.1) (λ j u. l.invariant.passed j (omega arith))
