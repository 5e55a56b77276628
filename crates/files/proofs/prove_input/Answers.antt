-- What was written is made of the buffer's front, which is what could be read.
use Rattle.std.proofs.Common.{ap, ◌∙◌}
use Rattle.edition.specs.Meaning.{edition_of}
use Rattle.program_output.specs.Output.{prove_written}
use Rattle.input.proofs.Told.{told}
use Rattle.files.proofs.prove_input.Goals as goal

pub returns-clause-output : goal.returns-clause-output
returns-clause-output g c = λ ok.
    told 16384 (λ bytes. (prove_written (edition_of c.args.e) bytes).output) _ _ _ c.in-Ok.n _ _ c.in-Ok.ensures.buffer_len_unchanged c.in-Ok.ensures.front
    (c.prove-written.ensures.output_after ∙ ap (λ bytes. (prove_written (edition_of c.args.e) bytes).output) c.front.ensures) (c.deliver.ensures.output ok)

pub returns-clause-error : goal.returns-clause-error
returns-clause-error g c = λ ok.
    told 16384 (λ bytes. (prove_written (edition_of c.args.e) bytes).error) _ _ _ c.in-Ok.n _ _ c.in-Ok.ensures.buffer_len_unchanged c.in-Ok.ensures.front
    (c.prove-written.ensures.error_value ∙ ap (λ bytes. (prove_written (edition_of c.args.e) bytes).error) c.front.ensures) (c.deliver.ensures.error ok)
