use Rattle.places.specs.Marks.{mark_test}
use Rattle.places.proofs.mark.Goals as goal

pub returns-clause-value : goal.returns-clause-value
returns-clause-value c = mark_test _
