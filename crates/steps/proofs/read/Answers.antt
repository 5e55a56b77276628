use Rattle.edition.specs.Meaning.{edition_of}
use Rattle.steps.proofs.read.Goals as goal

pub returns : goal.returns
unfolding edition_of
returns c = c.read_in.ensures
