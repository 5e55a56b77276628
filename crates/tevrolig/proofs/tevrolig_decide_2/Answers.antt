use Rattle.definition.specs.Verify.{decide_file, verify_in}
use Rattle.tevrolig.proofs.Numbered.{verdict_numbers}
use Rattle.tevrolig.proofs.tevrolig_decide_2.Goals as goal

pub returns : goal.returns
unfolding decide_file verify_in
returns c = let both = verdict_numbers (c.of_verdict-n.ensures.number_value, (c.of_verdict-n.ensures.place_value, c.of_verdict-n.ensures.reads_value)) c.verify_2.ensures in record { value = both.0; place_after = both.1.0; reads_after = both.1.1 }
