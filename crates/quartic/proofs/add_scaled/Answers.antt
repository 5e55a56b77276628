use Rattle.definition.specs.Field.{prime_of, field_of}
use Rattle.quartic.specs.Meaning.{quad_of}
use Rattle.quartic.proofs.Sums.{scaled_is}
use Rattle.quartic.proofs.add_scaled.Goals as goal

pub returns : goal.returns
unfolding field_of prime_of
returns c =
    let a = c.args in
    scaled_is (quad_of a.s) (quad_of a.y) a.k c.add_product.ensures c.add_product-2.ensures c.add_product-3.ensures
    c.add_product-4.ensures
