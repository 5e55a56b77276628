use mathlib.Core.Path.{ap, ◌∙◌}
use borrow.Author.Tests.{ne_eqb}
use Rattle.device_definition.specs.Device.{Device, read}
use Rattle.device_calls.specs.Calls.{read_call}
use Rattle.device_calls.proofs.read.Goals as goal

pub returns-then-state-ne-WORDS : goal.returns-then-state-ne-WORDS
unfolding read_call
returns-then-state-ne-WORDS c = rw (ne_eqb _ 1160 c.if-state-ne-WORDS.true)

pub returns : goal.returns
unfolding read_call
returns c =
    let a = c.args in
    rw c.if-state-ne-WORDS.false (c.read.ensures ∙ ap (λ (d : Device). read d a.register) c.unpack.ensures)
