use mathlib.Core.Path.{ap, ◌∙◌}
use Rattle.definition.specs.Line.{line_of}
use Rattle.batch_definition.specs.Batch.{verify_batch}
use Rattle.program_output.specs.Output.{check_batch_text}
use Rattle.program_output.proofs.check_batch.Goals as goal

pub returns : goal.returns
unfolding check_batch_text
returns c =
    let line = c.of_verdict.ensures in record { result_value = line.bytes_value ∙ ap line_of (c.verify_batch.ensures ∙ ap verify_batch c.taken.ensures); length_bound = line.length_bound }
