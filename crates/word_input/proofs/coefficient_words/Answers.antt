use mathlib.Core.Path.{sym, ap, ◌∙◌}
use native.Mathlib.Omega.{arith}
use lib.ListN.{get_or, get_or-eq_default}
use Rattle.definition.specs.Field.{spelling_of, word_count}
use Rattle.layouts.specs.Spellings.{count_zero}
use Rattle.word_input.specs.Input.{coefficient_words}
use Rattle.word_input.proofs.coefficient_words.Goals as goal

pub returns-in_default : goal.returns-in_default
unfolding coefficient_words
returns-in_default c =
    let w = c.args.words.now in
    let σ = spelling_of (get_or w 0 0) in
    sym (ap (word_count σ) (get_or-eq_default w 0 {n = 2} (omega arith)) ∙ count_zero σ)

pub returns-in-len3-up : goal.returns-in-len3-up
unfolding coefficient_words
returns-in-len3-up c = c.words.ensures.0
