use lib.ListN.{length}
use Rattle.root_values.proofs.Dividing.{never_nothing}
use Rattle.root_values.proofs.divide_over.Goals as goal

pub returns-in_default : goal.returns-in_default
returns-in_default g c =
    let A = g.A.Arithmetic in
    let a = c.args in
    absurd (never_nothing (A.over a.a) (A.laws a.a) (A.elements a.bottoms.now) (length (A.elements a.tops.now)) c.requires.divisible c.times_before-all.ensures.value c.in_default.ensures)
