use mathlib.Core.Path.{refl, sym, ap, subst, ◌∙◌}
use borrow.Author.Tests.{ne_eqb}
use Rattle.registers.specs.Meaning.{device_of}
use Rattle.device_words.specs.Words.{words_of}
use Rattle.device_calls.specs.Calls.{fresh_answer, fresh_state}
use Rattle.device_calls.specs.Counts.{Small, fresh_small}
use Rattle.device_calls.proofs.fresh.Goals as goal

pub returns-then-state-ne-WORDS : goal.returns-then-state-ne-WORDS
unfolding fresh_answer fresh_state
returns-then-state-ne-WORDS c = rw (ne_eqb _ 1160 c.if-state-ne-WORDS.true) (record { value = refl; state_after = refl; state_after_2 = λ e. absurd (c.if-state-ne-WORDS.true e) })

pub returns : goal.returns
unfolding fresh_answer fresh_state device_of
returns c =
    let p = c.pack.ensures in
    let f = c.fresh.ensures in
    let k = subst Small (sym f) fresh_small in rw c.if-state-ne-WORDS.false (record { value = refl; state_after = p.state_after ∙ ap words_of f; state_after_2 = λ e. p.state_after_2 k.taken k.treated ∙ f })
