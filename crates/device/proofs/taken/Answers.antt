use lib.Seq.{length-take-le}
use lib.ListN.{length}
use mathlib.Core.Path.{sym}
use native.Mathlib.Omega.{arith}
use Rattle.device.proofs.Steps.{whole_is}
use Rattle.device.proofs.taken.Goals as goal

pub slice_bounds-result-end : goal.slice_bounds-result-end
slice_bounds-result-end c =
    let b = c.args.buffer.now in sym (length-take-le (length b) b (omega arith))

pub returns-then-buffer-count : goal.returns-then-buffer-count
returns-then-buffer-count c =
    whole_is c.args.count c.args.buffer.now c.if-buffer-count.true

pub slice_bounds-result-end-2 : goal.slice_bounds-result-end-2
slice_bounds-result-end-2 c =
    let a = c.args in sym (length-take-le a.count a.buffer.now (omega (arith, c.if-buffer-count.false)))
