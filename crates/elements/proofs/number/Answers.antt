use mathlib.Core.Path.{refl}
use Rattle.definition.specs.Field.{spelling_of}
use Rattle.elements.proofs.Cases.{number_in_lem}
use Rattle.elements.proofs.number.Goals as goal

-- `elements::number` meets its contract. Assumes nothing.
pub returns : goal.returns
returns c = record { a_value = refl; by_index = λ field. number_in_lem (spelling_of field) c.args.x _ refl refl refl refl }
