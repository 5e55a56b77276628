use Rattle.nearest_definition.specs.Nearest.{nearest}
use Rattle.outcome.specs.Gives.{Gives, gives}
use Rattle.tevrolig.proofs.Numbered.{given_written}
use Rattle.tevrolig.proofs.tevrolig_nearest.Goals as goal

pub returns : goal.returns
returns c =
    let a = c.args in
    let g : Gives (nearest a.sheet.now a.table.now) a.output.now _ _ = gives (c.nearest-answer.ensures.result_value, c.nearest-answer.ensures.output_after) in let both = given_written (c.of_answer-n.ensures.number_value, c.of_answer-n.ensures.value_value) g in record { value = both.0; value_after = both.1.0; output_after = both.1.1 }
