use mathlib.Core.Path.{◌∙◌, sym}
use Rattle.definition.specs.Field.{prime_of, field_of}
use Rattle.algebra.specs.Quartic.{quad_path}
use Rattle.spelling.specs.Field3.{scale₃}
use Rattle.quartic.specs.Meaning.{quad_of}
use Rattle.quartic.proofs.scale.Goals as goal

pub returns : goal.returns
unfolding field_of prime_of
returns c =
    let a = c.args in
    quad_path c.mul.ensures c.mul-2.ensures c.mul-3.ensures c.mul-4.ensures ∙ sym (scale₃ a.k (quad_of a.y))
