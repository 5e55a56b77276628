use mathlib.Core.Path.{sym, ap, ◌∙◌}
use Rattle.outcome.specs.Meaning.{answer_of}
use Rattle.word_input.specs.InputWords.{answered_words, refused_words}
use Rattle.nearest_bytes.specs.NearestInput.{nearest_input, nearest_of_words, taken}
use Rattle.nearest_bytes.proofs.find_input.Goals as goal

pub returns-in-Done : goal.returns-in-Done
unfolding answer_of nearest_input taken
returns-in-Done c =
    let run = c.find_words.ensures in
    let words = c.batch_words-read.ensures in
    let a = c.args in
    let m = answered_words (taken a.bytes.now) _ nearest_of_words a.output.now
    (record { answered = sym (ap answer_of c.in-Done.is) ∙ words.result_value; written = words.output_after })
    (record { answered = run.result_value; written = run.output_after }) in record { result_value = m.answered; output_after = m.written }

pub returns-in-Refusal : goal.returns-in-Refusal
unfolding answer_of nearest_input taken
returns-in-Refusal c =
    let words = c.batch_words-read.ensures in
    let a = c.args in
    let m = refused_words (taken a.bytes.now) _ nearest_of_words a.output.now c.in-Refusal.number c.in-Refusal.place (sym (ap answer_of c.in-Refusal.is) ∙ words.result_value) in record { result_value = m.answered; output_after = m.written }
