use mathlib.Core.Path.{sym, ap, ◌∙◌}
use borrow.Author.Tests.{ne_eqb}
use Rattle.device_definition.specs.Device.{bit, line}
use Rattle.device_calls.specs.Calls.{line_call}
use Rattle.device_calls.proofs.line.Goals as goal

pub returns-then-state-ne-WORDS : goal.returns-then-state-ne-WORDS
unfolding line_call
returns-then-state-ne-WORDS c = rw (ne_eqb _ 1160 c.if-state-ne-WORDS.true)

pub returns-then-line : goal.returns-then-line
unfolding line_call bit
returns-then-line c =
    rw c.if-state-ne-WORDS.false (ap bit (sym c.if-line.true ∙ c.line.ensures ∙ ap line c.unpack.ensures))

pub returns : goal.returns
unfolding line_call bit
returns c =
    rw c.if-state-ne-WORDS.false (ap bit (sym c.if-line.false ∙ c.line.ensures ∙ ap line c.unpack.ensures))
