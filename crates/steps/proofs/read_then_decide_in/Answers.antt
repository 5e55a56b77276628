use Rattle.edition.specs.Meaning.{edition_of}
use Rattle.outcome.specs.Meaning.{outcome_of, verdict_of}
use Rattle.steps.proofs.Joined.{decided_is, refused_is}
use Rattle.steps.proofs.read_then_decide_in.Goals as goal

pub returns-in-Refused : goal.returns-in-Refused
unfolding verdict_of outcome_of
returns-in-Refused c =
    let a = c.args in
    refused_is (edition_of a.e) a.file.now c.read_in-read.ensures c.in-Refused.is

pub returns : goal.returns
returns c = decided_is _ _ c.decide_in.ensures
