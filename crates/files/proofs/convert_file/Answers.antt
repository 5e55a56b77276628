-- What was written is made of the buffer's front, which is what could be read.
use Rattle.std.proofs.Common.{ap, ◌∙◌}
use Rattle.edition.specs.Meaning.{edition_of}
use Rattle.program_output.specs.Output.{convert_written}
use Rattle.input.proofs.Told.{told}
use Rattle.files.proofs.convert_file.Goals as goal

pub returns-clause-output : goal.returns-clause-output
returns-clause-output g c = λ ok.
    told 65536 (λ bytes. (convert_written (edition_of c.args.to) bytes).output) _ _ _ c.in-Ok.n _ _ c.in-Ok.ensures.buffer_len_unchanged c.in-Ok.ensures.front
    (c.convert-written.ensures.output_after ∙ ap (λ bytes. (convert_written (edition_of c.args.to) bytes).output) c.front.ensures) (c.deliver.ensures.output ok)

pub returns-clause-error : goal.returns-clause-error
returns-clause-error g c = λ ok.
    told 65536 (λ bytes. (convert_written (edition_of c.args.to) bytes).error) _ _ _ c.in-Ok.n _ _ c.in-Ok.ensures.buffer_len_unchanged c.in-Ok.ensures.front
    (c.convert-written.ensures.error_value ∙ ap (λ bytes. (convert_written (edition_of c.args.to) bytes).error) c.front.ensures) (c.deliver.ensures.error ok)
