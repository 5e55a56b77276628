use mathlib.Core.Path.{refl}
use Rattle.outcome.specs.Meaning.{verdict_of}
use Rattle.numbers.proofs.of_verdict.Goals as goal

pub returns : goal.returns
unfolding verdict_of
returns c =
    let n = c.of_outcome-f.ensures in record { number_value = n.number_value; place_value = n.place_value; reads_value = refl }
