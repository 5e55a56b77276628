use Rattle.std.proofs.Common.{sym, ap, ◌∙◌}
use Rattle.field.specs.Answer.{inversion_of}
use Rattle.quartic.proofs.Inverse.{no_inverse, an_inverse}
use Rattle.quartic.specs.Meaning.{quad_of}
use Rattle.quartic.proofs.inv.Goals as goal

pub returns-in_default : goal.returns-in_default
returns-in_default c =
    no_inverse (quad_of c.args.x) c.norm_first-n.ensures c.norm_second-m.ensures c.mul.ensures c.mul-2.ensures c.mul-3.ensures c.sub-norm.ensures
    (ap inversion_of (sym c.in_default.is) ∙ c.inv.ensures)

pub returns : goal.returns
returns c =
    an_inverse (quad_of c.args.x) c.norm_first-n.ensures c.norm_second-m.ensures c.mul.ensures c.mul-2.ensures c.mul-3.ensures c.sub-norm.ensures c.in-Some.ensures
    c.sub.ensures c.sub-2.ensures c.mul-4.ensures c.sub-3.ensures c.mul-5.ensures c.mul-6.ensures
