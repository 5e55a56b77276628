use mathlib.Core.Path.{refl}
use Rattle.definition.specs.Sheet.{field_rule}
use Rattle.sheet.proofs.field_rule.Goals as goal

pub returns : goal.returns
unfolding field_rule
returns c = refl
