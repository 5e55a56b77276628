use native.Mathlib.Omega.{arith}
use Rattle.list_laws.specs.Zeros.{length_zeros}
use Rattle.definition.specs.Sheet.{edition1}
use Rattle.domain.specs.OfSheet.{fitting, points_of_sheet}
use Rattle.first_table.proofs.Points.{asked, table_zero}
use Rattle.first_table.proofs.of_polynomial.Goals as goal

pub of_sheet_within-count-requires : goal.of_sheet_within-count-requires
of_sheet_within-count-requires c = record { in_bounds = (c.requires.in_bounds.0, fitting edition1 c.args.w.now c.requires.in_bounds.0 c.requires.in_bounds.1); w_in_bounds = omega (arith, length_zeros 256, c.if-w-le256.true) }

pub domain_table-requires : goal.domain_table-requires
domain_table-requires c =
    let w = c.args.w.now in let both = asked w c.args.f.now c.args.out.now c.requires.in_bounds.0 c.requires.in_bounds.1 c.requires.f_len c.requires.out_len c.of_sheet_within-count.ensures.powers.1 in record { halves = both.0; scale_nonzero = both.1.0; out_len = both.1.1 }

pub of_sheet-size-requires : goal.of_sheet-size-requires
of_sheet-size-requires c = record { in_bounds = (c.requires.in_bounds.0, fitting edition1 c.args.w.now c.requires.in_bounds.0 c.requires.in_bounds.1); pw_len = length_zeros 4096 }

pub domain_table-requires-else-w-le256 : goal.domain_table-requires-else-w-le256
domain_table-requires-else-w-le256 c =
    let w = c.args.w.now in let both = asked w c.args.f.now c.args.out.now c.requires.in_bounds.0 c.requires.in_bounds.1 c.requires.f_len c.requires.out_len c.of_sheet-size.ensures.powers.1 in record { halves = both.0; scale_nonzero = both.1.0; out_len = both.1.1 }

pub returns-then-w-le256 : goal.returns-then-w-le256
returns-then-w-le256 c =
    let t = c.domain_table in
    table_zero c.args.w.now c.args.f.now _ c.args.out.now t.new.out (points_of_sheet edition1 c.args.w.now _ c.of_sheet_within-count.ensures.powers.0)
    c.requires.out_len t.auto.out t.ensures

pub returns-else-w-le256 : goal.returns-else-w-le256
returns-else-w-le256 c =
    let t = c.domain_table-else-w-le256 in
    table_zero c.args.w.now c.args.f.now _ c.args.out.now t.new.out (points_of_sheet edition1 c.args.w.now _ c.of_sheet-size.ensures.powers.0)
    c.requires.out_len t.auto.out t.ensures
