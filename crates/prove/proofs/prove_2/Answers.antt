use Rattle.definition.specs.Prove.{prove_in}
use Rattle.definition.specs.Sheet.{edition2}
use Rattle.edition.specs.Meaning.{edition_of}
use Rattle.outcome.specs.Gives.{Gives, gives}
use Rattle.prove.proofs.prove_2.Goals as goal

pub returns : goal.returns
unfolding edition_of
returns c =
    let a = c.args in
    let g : Gives (prove_in edition2 a.sheet.now a.coefficients.now a.coins.now) a.output.now _ _ = gives (c.prove_in.ensures.result_value, c.prove_in.ensures.output_after) in record { result_value = g.answer; output_after = g.output }
