use mathlib.Core.Path.{ap, ◌∙◌}
use lib.ListN.{drop}
use Rattle.definition.specs.Sheet.{edition1}
use Rattle.nearest_definition.specs.Nearest.{nearest}
use Rattle.edition.specs.Meaning.{edition_of}
use Rattle.word_input.specs.Input.{sheet_part}
use Rattle.nearest_bytes.specs.NearestInput.{nearest_of_words}
use Rattle.nearest_bytes.proofs.find_words.Goals as goal

pub returns : goal.returns
unfolding edition_of nearest_of_words
returns c =
    let found = c.nearest.ensures in
    let words = c.front-order.ensures in
    let sheet = c.sheet-sheet.ensures ∙ ap (sheet_part edition1) words in
    let table = c.after-table.ensures ∙ ap (drop 12) words in
    let out = c.args.output.now in record { result_value = found.result_value ∙ (λ t. (nearest (sheet t) (table t) out).answer); output_after = found.output_after ∙ (λ t. (nearest (sheet t) (table t) out).output) }
