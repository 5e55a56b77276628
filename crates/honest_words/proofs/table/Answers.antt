use native.Mathlib.Omega.{arith}
use mathlib.Core.Path.{◌∙◌}
use Rattle.honest_words.specs.Tables.{level_asks, level_table, level_words}
use Rattle.honest_words.proofs.table.Goals as goal

-- `honest_words::table` meets its contract. Assumes nothing.
pub domain_table-requires : goal.domain_table-requires
domain_table-requires c =
    let q = level_asks c.requires.on_level in record { halves = q.0; scale_nonzero = q.1; out_len = (c.requires.out_len, omega (arith, c.requires.out_len, level_words c.requires.on_level)) }

pub returns : goal.returns
returns c =
    let t = c.domain_table in
    level_table c.args.f.now t.new.out c.requires.on_level (t.auto.out ∙ c.requires.out_len) t.ensures
