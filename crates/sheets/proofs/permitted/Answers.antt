use native.Mathlib.Omega.{arith}
use Rattle.sheets.proofs.RuleLaws.{all_tried, none_tried, one_left, one_taken}
use Rattle.sheets.proofs.permitted.Goals as goal
use Rattle.sheets.proofs.permitted.Goals.{then-permits, else-permits}

pub loop-i-init : goal.loop-i-init
loop-i-init c =
    none_tried c.args.w.now c.args.values.now c.args.j c.requires.w_len.0 c.requires.values_len

pub loop-i-preserved : goal.loop-i-preserved
loop-i-preserved c =
    let t = c.loop-i.invariant in
    elim c.if-permits.branch [
      | then-permits w ↦ one_taken t c.loop-i-test.true c.candidate-x.ensures c.permits.ensures.value c.permits.ensures.w_after w.if-permits.true w.values-is w.n-is
      | else-permits w ↦ one_left t c.loop-i-test.true c.candidate-x.ensures c.permits.ensures.value c.permits.ensures.w_after w.if-permits.false w.values-is w.n-is
    ]

pub returns : goal.returns
returns c =
    let t = c.loop-i.invariant in record { values_after = all_tried t c.loop-i-test.false; upper_bound = (omega arith, t.front) }
