-- The line is that of the buffer's front, which is what could be read.
use Rattle.std.proofs.Common.{sym, ap, ◌∙◌}
use Rattle.edition.specs.Meaning.{edition_of}
use Rattle.program_output.specs.Output.{check_text}
use Rattle.input.proofs.Told.{on_ok, told}
use Rattle.report.proofs.check.Goals as goal

pub returns : goal.returns
returns g c = λ ok.
    told 65536 (check_text (edition_of c.args.e)) _ _ _ c.in-Ok.n _ _ c.in-Ok.ensures.buffer_len_unchanged c.in-Ok.ensures.front
    (c.check-line.ensures.result_value ∙ ap (check_text (edition_of c.args.e)) c.front.ensures)
    (on_ok _ (sym c.is_ok.ensures.value ∙ ok) c.send.ensures)
