-- What was written is made of the buffer's front, which is what could be read.
use Rattle.std.proofs.Common.{sym, ap, ◌∙◌}
use Rattle.definition.specs.Load.{load_output}
use Rattle.input.proofs.Told.{on_ok, told}
use Rattle.loader.proofs.run.Goals as goal

pub returns : goal.returns
returns g c = λ ok.
    told 4 load_output _ _ _ c.in-Ok.n _ _ c.in-Ok.ensures.buffer_len_unchanged c.in-Ok.ensures.front
    (c.output-length.ensures.out_after ∙ ap load_output c.front.ensures)
    (on_ok _ (sym c.is_ok.ensures.value ∙ ok) c.send.ensures)
