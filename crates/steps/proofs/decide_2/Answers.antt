use Rattle.edition.specs.Meaning.{edition_of}
use Rattle.steps.proofs.decide_2.Goals as goal

pub returns : goal.returns
unfolding edition_of
returns c = c.decide_in.ensures
