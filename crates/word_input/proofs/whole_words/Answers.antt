use native.Mathlib.Omega.{arith}
use Rattle.outcome.specs.Meaning.{answer_of}
use Rattle.word_input.specs.InputWords.{words_refused, words_done}
use Rattle.word_input.proofs.whole_words.Goals as goal

-- `word_input::whole_words` meets its contract.
pub returns-then-counted-ne0 : goal.returns-then-counted-ne0
unfolding answer_of
returns-then-counted-ne0 c =
    let a = c.args in
    let m = words_refused a.counted.now a.output.now (omega arith) in record { result_value = m.answered; output_after = m.written }

pub returns : goal.returns
unfolding answer_of
returns c =
    let a = c.args in
    let m = words_done a.counted.now a.output.now _ (omega arith) c.place.ensures in record { result_value = m.answered; output_after = m.written }
