use Rattle.definition.specs.Prove.{encode}
use Rattle.outcome.specs.Gives.{Gives, gives}
use Rattle.tevrolig.proofs.Numbered.{given_written}
use Rattle.tevrolig.proofs.tevrolig_encode.Goals as goal

pub returns : goal.returns
returns c =
    let a = c.args in
    let g : Gives (encode a.sheet.now a.coefficients.now) a.output.now _ _ = gives (c.encode-answer.ensures.result_value, c.encode-answer.ensures.output_after) in let both = given_written (c.of_answer-n.ensures.number_value, c.of_answer-n.ensures.value_value) g in record { value = both.0; value_after = both.1.0; output_after = both.1.1 }
