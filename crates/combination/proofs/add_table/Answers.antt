use native.Mathlib.Omega.{arith}
use Rattle.definition.specs.Field.{spelling_of}
use Rattle.spelling.specs.Words.{elements_even}
use Rattle.elements.specs.Meaning.{value_at}
use Rattle.combination.proofs.Tables.{degree_few, entries, factors, factors_asked, products_are}
use Rattle.combination.proofs.add_table.Goals as goal

-- `combination::add_table` meets its contract. Assumes nothing.
pub factor-requires : goal.factor-requires
factor-requires c = (c.requires.e_in_bounds.0, omega (arith, c.requires.e_in_bounds.0, degree_few c.requires.tabled))

pub domain_table-requires : goal.domain_table-requires
domain_table-requires c = let both = factors_asked c.requires.tabled c.factor.new.list c.factor.auto.list in record { halves = both.0; scale_nonzero = both.1.0; out_len = both.1.1 }

pub overflow_add-e : goal.overflow_add-e
overflow_add-e c = omega (arith, c.requires.e_in_bounds.0, degree_few c.requires.tabled)

pub power-requires : goal.power-requires
power-requires c = omega (arith, c.requires.e_in_bounds.0, degree_few c.requires.tabled)

pub add_products-requires : goal.add_products-requires
add_products-requires c =
    let a = c.args in
    let t = c.domain_table in
    let same = elements_even (spelling_of a.field) t.new.out a.multipliers.now t.auto.out in
    (omega (arith, c.requires.e_in_bounds.1, entries c.requires.tabled), omega (arith, same, entries c.requires.tabled, factors c.requires.tabled))

pub returns : goal.returns
returns c =
    let a = c.args in
    let t = c.requires.tabled in
    products_are a.field (value_at a.field a.r) (value_at a.field c.power.result) a.e a.table.now c.factor.new.list a.pw.now a.multipliers.now a.out.now c.add_products.new.out t.root t.powers (entries t) (factors t)
    c.power.ensures c.factor.ensures c.domain_table.new.out c.domain_table.ensures c.add_products.ensures
