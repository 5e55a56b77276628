use mathlib.Core.Path.{ap, ◌∙◌}
use Rattle.definition.specs.Prove.{prove_in}
use Rattle.edition.specs.Meaning.{edition_of}
use Rattle.word_input.specs.Input.{sheet_part, coefficients_part, coins_part, prove_words}
use Rattle.prove_bytes.proofs.prove_words.Goals as goal

pub returns : goal.returns
unfolding prove_words
returns c =
    let a = c.args in
    let ed = edition_of a.e in
    let p = c.prove_in.ensures in
    let words = c.front-order.ensures in
    let sheet = c.sheet-given.ensures ∙ ap (sheet_part ed) words in
    let coefficients = c.coefficients-f.ensures ∙ ap (coefficients_part ed) words in
    let coins = c.coins-rest.ensures ∙ ap (coins_part ed) words in
    let out = a.output.now in record { result_value = p.result_value ∙ (λ t. (prove_in ed (sheet t) (coefficients t) (coins t) out).answer); output_after = p.output_after ∙ (λ t. (prove_in ed (sheet t) (coefficients t) (coins t) out).output) }
