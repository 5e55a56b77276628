use native.Mathlib.Omega.{arith}
use lib.ListN.{length}
use Rattle.tables.proofs.Domain.{table_all}
use Rattle.tables.proofs.on_roots.Goals as goal

-- `tables::on_roots` meets its contract. Assumes nothing.
pub table-requires : goal.table-requires
table-requires c = record { from_lt_stride = (omega arith, omega arith); halves = c.requires }

pub returns : goal.returns
returns c =
    let a = c.args in
    let t = c.table in
    table_all a.field a.f.now a.pw.now a.at a.step (length a.out.now) t.new.out t.ensures
