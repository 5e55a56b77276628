use borrow.Author.Tests.{ne_eqb}
use mathlib.Core.Path.{ap, ◌∙◌}
use Rattle.registers.specs.Meaning.{device_of}
use Rattle.device_definition.specs.Device.{written}
use Rattle.device_definition.specs.Device as definition
use Rattle.device.proofs.written.Goals as goal

pub returns-then-register-eq0 : goal.returns-then-register-eq0
unfolding written device_of
returns-then-register-eq0 c =
    let a = c.args in rw c.if-register-eq0.true (c.command.ensures ∙ ap (definition.command a.value (device_of a.d)) c.taken.ensures)

pub returns-then-register-eq2 : goal.returns-then-register-eq2
unfolding written
returns-then-register-eq2 c =
    rw c.if-register-eq2.true c.enabled.ensures

pub returns-then-register-eq3 : goal.returns-then-register-eq3
unfolding written
returns-then-register-eq3 c =
    rw c.if-register-eq3.true c.flagged.ensures

pub returns : goal.returns
unfolding written
returns c =
    let a = c.args in rw (ne_eqb a.register 0 c.if-register-eq0.false, ne_eqb a.register 2 c.if-register-eq2.false, ne_eqb a.register 3 c.if-register-eq3.false, ne_eqb a.register 9 c.requires)
