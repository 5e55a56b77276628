use mathlib.Core.Path.{◌∙◌, ap}
use mathlib.Core.Bool.{not}
use borrow.Author.Tests.{ne_eqb}
use Rattle.domain.proofs.Numbers.{four_there, of_four, of_one}
use Rattle.domain.proofs.number.Goals as goal

-- `domain::number` meets its contract. Assumes nothing.
pub zeros_after-requires : goal.zeros_after-requires
zeros_after-requires c = four_there c.args.w.now c.args.place c.args.field c.if-field-ne-QUARTIC.false c.requires

pub returns-then-field-ne-QUARTIC : goal.returns-then-field-ne-QUARTIC
returns-then-field-ne-QUARTIC c = let a = c.args in ap not (ne_eqb a.field 3 c.if-field-ne-QUARTIC.true) ∙ of_one a.w.now a.place a.field c.if-field-ne-QUARTIC.true

pub returns-else-field-ne-QUARTIC : goal.returns-else-field-ne-QUARTIC
returns-else-field-ne-QUARTIC c = let a = c.args in of_four a.w.now a.place a.field c.if-field-ne-QUARTIC.false c.zeros_after.ensures
