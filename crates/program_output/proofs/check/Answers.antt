use mathlib.Core.Path.{ap, ◌∙◌}
use Rattle.definition.specs.Line.{line_of}
use Rattle.definition.specs.Verify.{verify_in}
use Rattle.edition.specs.Meaning.{edition_of}
use Rattle.program_output.specs.Output.{check_text}
use Rattle.program_output.proofs.check.Goals as goal

pub returns : goal.returns
unfolding check_text
returns c =
    let e = edition_of c.args.e in
    let line = c.of_verdict.ensures in record { result_value = line.bytes_value ∙ ap line_of (c.verify_in.ensures ∙ ap (verify_in e) c.taken.ensures); length_bound = line.length_bound }
