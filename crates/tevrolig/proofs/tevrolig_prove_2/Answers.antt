use Rattle.definition.specs.Prove.{prove_in}
use Rattle.definition.specs.Sheet.{edition2}
use Rattle.outcome.specs.Gives.{Gives, gives}
use Rattle.tevrolig.proofs.Numbered.{given_written}
use Rattle.tevrolig.proofs.tevrolig_prove_2.Goals as goal

pub returns : goal.returns
returns c =
    let a = c.args in
    let g : Gives (prove_in edition2 a.sheet.now a.coefficients.now a.coins.now) a.output.now _ _ = gives (c.prove_2-answer.ensures.result_value, c.prove_2-answer.ensures.output_after) in let both = given_written (c.of_answer-n.ensures.number_value, c.of_answer-n.ensures.value_value) g in record { value = both.0; value_after = both.1.0; output_after = both.1.1 }
