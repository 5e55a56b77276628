-- The line is that of the buffer's front, which is what could be read.
use Rattle.std.proofs.Common.{sym, ap, ◌∙◌}
use Rattle.program_output.specs.Output.{check_batch_text}
use Rattle.input.proofs.Told.{on_ok, told}
use Rattle.report.proofs.check_batch.Goals as goal

pub returns : goal.returns
returns g c = λ ok.
    told 65536 check_batch_text _ _ _ c.in-Ok.n _ _ c.in-Ok.ensures.buffer_len_unchanged c.in-Ok.ensures.front
    (c.check_batch-line.ensures.result_value ∙ ap check_batch_text c.front.ensures)
    (on_ok _ (sym c.is_ok.ensures.value ∙ ok) c.send.ensures)
