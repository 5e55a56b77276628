use mathlib.Core.Path.{sym}
use lib.Seq.{length-take-le}
use Rattle.load.proofs.Inputs.{drawn_parts}
use Rattle.load.proofs.run.Goals as goal

pub slice_bounds-honest_verdict-end-2 : goal.slice_bounds-honest_verdict-end-2
slice_bounds-honest_verdict-end-2 c =
    let d = c.draw-input in
    sym (length-take-le d.result.degree d.result.coefficients d.ensures.degree_in_bounds.0)

pub slice_bounds-honest_verdict-end-3 : goal.slice_bounds-honest_verdict-end-3
slice_bounds-honest_verdict-end-3 c =
    let d = c.draw-input in
    sym (length-take-le d.result.due d.result.coins d.ensures.degree_in_bounds.1)

pub returns : goal.returns
returns c =
    let v = c.args.generator.v in
    let e = drawn_parts v c.draw-input.ensures.v_value in record { verdict_value = c.honest_verdict-verdict.ensures v e.0; v_value = e.1 }
