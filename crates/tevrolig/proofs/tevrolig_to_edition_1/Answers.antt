use Rattle.tevrolig.proofs.Numbered.{answer_written}
use Rattle.tevrolig.proofs.tevrolig_to_edition_1.Goals as goal

pub returns : goal.returns
returns c = let both = answer_written (c.of_answer-n.ensures.number_value, c.of_answer-n.ensures.value_value) (c.to_edition_1.ensures.result_value, c.to_edition_1.ensures.output_after) in record { value = both.0; value_after = both.1.0; output_after = both.1.1 }
