use Rattle.registers.specs.Meaning.{device_of}
use Rattle.outcome.specs.Meaning.{outcome_of}
use native.Mathlib.Omega.{arith}
use mathlib.Core.Path.{sym, ◌∙◌}
use borrow.Author.Tests.{le-leb, lt-leb}
use Rattle.registers.proofs.Shown.{data_busy, data_fits, data_full, no_data, no_start, start_busy, start_free}
use Rattle.registers.proofs.busy_or_full.Goals as goal

pub returns-then-busy : goal.returns-then-busy
unfolding outcome_of device_of
returns-then-busy c =
    data_busy c.args.register c.args.value (device_of c.args.d) c.if-register-eq9.true (sym c.is_busy-busy.ensures ∙ c.if-busy.true)

pub returns-then-d-ge-BUFFER : goal.returns-then-d-ge-BUFFER
unfolding outcome_of device_of
returns-then-d-ge-BUFFER c =
    data_full c.args.register c.args.value (device_of c.args.d) c.if-register-eq9.true (sym c.is_busy-busy.ensures ∙ c.if-busy.false) (le-leb 65536 _ c.if-d-ge-BUFFER.true)

pub returns-then-register-eq9 : goal.returns-then-register-eq9
unfolding outcome_of device_of
returns-then-register-eq9 c =
    data_fits c.args.register c.args.value (device_of c.args.d) c.if-register-eq9.true (sym c.is_busy-busy.ensures ∙ c.if-busy.false) (lt-leb 65536 c.args.d.taken (omega (arith, c.if-d-ge-BUFFER.false)))

pub returns-then-busy-2 : goal.returns-then-busy-2
unfolding outcome_of device_of
returns-then-busy-2 c =
    start_busy c.args.register c.args.value (device_of c.args.d) c.if-register-eq0.true c.if-value-eq1.true (sym c.is_busy-busy.ensures ∙ c.if-busy-2.true)

pub returns-else-busy-2 : goal.returns-else-busy-2
unfolding outcome_of device_of
returns-else-busy-2 c =
    start_free c.args.register c.args.value (device_of c.args.d) c.if-register-eq0.true (sym c.is_busy-busy.ensures ∙ c.if-busy-2.false)

pub returns-else-value-eq1 : goal.returns-else-value-eq1
unfolding outcome_of device_of
returns-else-value-eq1 c =
    no_start c.args.register c.args.value (device_of c.args.d) c.if-register-eq0.true c.if-value-eq1.false

pub returns-else-register-eq0 : goal.returns-else-register-eq0
unfolding outcome_of device_of
returns-else-register-eq0 c =
    no_data c.args.register c.args.value (device_of c.args.d) c.if-register-eq9.false c.if-register-eq0.false
