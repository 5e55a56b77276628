use Rattle.definition.specs.Sheet.{edition1}
use Rattle.edition.specs.Meaning.{edition_of}
use Rattle.outcome.specs.Gives.{Gives, gives}
use Rattle.word_input.specs.Input.{prove_input_in}
use Rattle.prove_bytes.proofs.prove_input.Goals as goal

pub returns : goal.returns
unfolding edition_of
returns c =
    let a = c.args in
    let g : Gives (prove_input_in edition1 a.bytes.now) a.output.now _ _ = gives (c.prove_input_in.ensures.result_value, c.prove_input_in.ensures.output_after) in record { result_value = g.answer; output_after = g.output }
