use native.Mathlib.Omega.{arith}
use lib.ListN.{length}
use Rattle.tables.proofs.Domain.{table_on_domain}
use Rattle.tables.proofs.on_domain.Goals as goal

-- `tables::on_domain` meets its contract: the table over the points at the domain's places is the definition's. Assumes nothing.
pub table-requires : goal.table-requires
table-requires c = record { from_lt_stride = (omega arith, omega arith); halves = (c.requires.halves, (omega arith, omega arith)) }

pub returns : goal.returns
returns c =
    let a = c.args in
    let t = c.table in
    table_on_domain a.field a.f.now a.pw.now a.scale (length a.out.now) t.new.out
    c.requires.scale_nonzero t.auto.out t.ensures
