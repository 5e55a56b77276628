use Rattle.definition.specs.Verify.{decide_file, verify_in}
use Rattle.steps.proofs.decide_in.Goals as goal

pub returns : goal.returns
unfolding decide_file verify_in
returns c = c.verify_in.ensures
