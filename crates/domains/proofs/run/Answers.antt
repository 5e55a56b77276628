-- What was written is made of the buffer's front, which is what could be read.
use Rattle.std.proofs.Common.{sym, ap, ◌∙◌}
use Rattle.definition.specs.Sheet.{edition1}
use Rattle.input.proofs.Told.{on_ok, told}
use Rattle.listing.specs.Listing.{listing}
use Rattle.domains.proofs.run.Goals as goal

pub returns : goal.returns
returns g c = λ ok.
    told 16384 (listing edition1) _ _ _ c.in-Ok.n _ _ c.in-Ok.ensures.buffer_len_unchanged c.in-Ok.ensures.front
    (c.output-length.ensures.out_after ∙ ap (listing edition1) c.front.ensures)
    (on_ok _ (sym c.is_ok.ensures.value ∙ ok) c.send.ensures)
