use borrow.Author.Tests.{ne_eqb}
use Rattle.device_definition.specs.Device.{command}
use Rattle.device.proofs.command.Goals as goal

pub returns-then-value-eq1 : goal.returns-then-value-eq1
unfolding command
returns-then-value-eq1 c =
    rw c.if-value-eq1.true c.start.ensures

pub returns-then-value-eq2 : goal.returns-then-value-eq2
unfolding command
returns-then-value-eq2 c =
    rw c.if-value-eq2.true c.cleared.ensures

pub returns : goal.returns
unfolding command
returns c =
    let v = c.args.value in rw (ne_eqb v 1 c.if-value-eq1.false, ne_eqb v 2 c.if-value-eq2.false)
