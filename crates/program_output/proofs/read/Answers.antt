use mathlib.Core.Path.{ap, ◌∙◌}
use Rattle.definition.specs.Line.{line_of}
use Rattle.definition.specs.Reading.{reading}
use Rattle.definition.specs.Verdict.{Outcome}
use Rattle.edition.specs.Meaning.{edition_of}
use Rattle.outcome.specs.Meaning.{verdict_of}
use Rattle.program_output.specs.Output.{read_text}
use Rattle.program_output.proofs.read.Goals as goal

pub returns : goal.returns
unfolding read_text verdict_of
returns c =
    let e = edition_of c.args.e in
    let line = c.of_verdict.ensures in record { result_value = line.bytes_value ∙ ap (λ (o : Outcome). line_of (record { outcome = o; reads = 0 })) (c.read_in.ensures ∙ ap (reading e) c.taken.ensures); length_bound = line.length_bound }
