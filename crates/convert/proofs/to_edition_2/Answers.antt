use Rattle.edition.specs.declared.Edition.TheVariants.{Two}
use Rattle.outcome.specs.Gives.{Gives}
use Rattle.convert.specs.Ways.{converted}
use Rattle.convert.proofs.to_edition_2.Goals as goal

pub returns : goal.returns
unfolding converted
returns c =
    let a = c.args in
    let g : Gives (converted Two a.file.now) a.output.now _ _ = c.convert_to.ensures in record { result_value = g.answer; output_after = g.output }
