use mathlib.Core.Path.{◌∙◌}
use Rattle.domain.proofs.Numbers.{three_zeros}
use Rattle.domain.proofs.zeros_after.Goals as goal

pub returns : goal.returns
returns c = c.eq.ensures ∙ three_zeros c.args.w.now c.args.place c.requires
