use Rattle.tevrolig.proofs.Numbered.{output_written}
use Rattle.tevrolig.proofs.tevrolig_sheet_of.Goals as goal

pub returns : goal.returns
returns c = let both = output_written c.refusal_number.ensures (c.sheet_of.ensures.result_value, c.sheet_of.ensures.output_after) in record { value = both.0; output_after = both.1 }
