use native.Mathlib.Omega.{arith}
use lib.ListN.{length}
use Rattle.definition.specs.Field.{spelling_of}
use Rattle.definition.specs.Polynomial.{geometric, mul_poly}
use Rattle.spelling.specs.ByField.{elements_at, field_at}
use Rattle.spelling.specs.Words.{elements_even}
use Rattle.elements.specs.Meaning.{value_at}
use Rattle.combination.proofs.Parts.{part_added}
use Rattle.combination.proofs.add_part.Goals as goal

-- `combination::add_part` meets its contract. Assumes nothing.
pub multiplied-requires : goal.multiplied-requires
multiplied-requires c = c.requires.nonzero

pub overflow_add-e : goal.overflow_add-e
overflow_add-e c = omega (arith, c.requires.nonzero.1.1)

pub power-requires : goal.power-requires
power-requires c = omega (arith, c.requires.nonzero.1.1)

pub add_polynomial-requires : goal.add_polynomial-requires
add_polynomial-requires c =
    let a = c.args in
    let t = c.multiplied in
    let same = elements_even (spelling_of a.field) t.new.out a.scratch.now t.auto.out in
    omega (arith, same, c.requires.out_len)

pub returns : goal.returns
returns c =
    let a = c.args in
    part_added (field_at a.field) (value_at a.field a.r) (value_at a.field c.power.result) a.e (length (elements_at a.field a.out.now)) (elements_at a.field c.multiplied.new.out)
    (mul_poly (field_at a.field) (elements_at a.field a.f.now) (geometric (field_at a.field) (value_at a.field a.r) a.e)) (elements_at a.field a.out.now) (elements_at a.field c.add_polynomial.new.out) c.power.ensures c.multiplied.ensures c.add_polynomial.ensures
