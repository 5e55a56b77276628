use native.Mathlib.Omega.{arith}
use mathlib.Core.Path.{sym, ◌∙◌}
use lib.ListN.{length}
use lib.Seq.{length-take-le}
use Rattle.list_laws.specs.Zeros.{zeros, length_zeros}
use Rattle.closest.proofs.conclude.Goals as goal

pub slice_bounds-conclude_in-end : goal.slice_bounds-conclude_in-end
slice_bounds-conclude_in-end c = sym (length-take-le (length c.args.table.now) (zeros 256) (omega (arith, length_zeros 256, c.if-n-le256.true)))

pub conclude_in-requires : goal.conclude_in-requires
conclude_in-requires c =
    let p = c.requires in
    let n = length-take-le (length c.args.table.now) (zeros 256) (omega (arith, length_zeros 256, c.if-n-le256.true)) in record { halves = p.halves; table_len = (p.table_len.0, (n ∙ p.table_len.0, p.table_len.1)); f_in_bounds = p.f_in_bounds }

pub slice_bounds-conclude_in-end-2 : goal.slice_bounds-conclude_in-end-2
slice_bounds-conclude_in-end-2 c = sym (length-take-le (length c.args.table.now) (zeros 4096) (omega (arith, length_zeros 4096, c.requires.table_len)))

pub conclude_in-requires-2 : goal.conclude_in-requires-2
conclude_in-requires-2 c =
    let p = c.requires in
    let n = length-take-le (length c.args.table.now) (zeros 4096) (omega (arith, length_zeros 4096, p.table_len)) in record { halves = p.halves; table_len = (p.table_len.0, (n ∙ p.table_len.0, p.table_len.1)); f_in_bounds = p.f_in_bounds }
