use Rattle.tevrolig.proofs.Numbered.{verdict_numbers}
use Rattle.tevrolig.proofs.tevrolig_verify_batch.Goals as goal

pub returns : goal.returns
returns c = let both = verdict_numbers (c.of_verdict-n.ensures.number_value, (c.of_verdict-n.ensures.place_value, c.of_verdict-n.ensures.reads_value)) c.verify_batch.ensures in record { value = both.0; place_after = both.1.0; reads_after = both.1.1 }
