use mathlib.Core.Path.{◌∙◌, ap}
use Rattle.definition.specs.Field.{field_in, inverse3, prime_of, reduced}
use Rattle.spelling.specs.Field3.{field3}
use Rattle.field3.proofs.inverse.Goals as goal

pub returns : goal.returns
unfolding inverse3 field_in prime_of
returns c = c.inv.ensures ∙ ap field3.inverse (c.reduce.ensures ∙ ap reduced c.element.ensures)
