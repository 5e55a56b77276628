use Rattle.edition.specs.Meaning.{edition_of}
use Rattle.verify.proofs.verify_2.Goals as goal

pub returns : goal.returns
unfolding edition_of
returns c = c.verify_in.ensures
