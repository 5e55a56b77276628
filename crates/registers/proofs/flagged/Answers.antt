use Rattle.registers.specs.Meaning.{device_of, phase_of}
use Rattle.device_definition.specs.Device.{flagged}
use Prim.Native.Nat.{◌%◌}
use borrow.Author.Tests.{eq-eqb, ne_eqb}
use Rattle.registers.proofs.Shown.{flag_kept, flag_lost}
use Rattle.registers.proofs.flagged.Goals as goal

pub returns-then-value-eq0 : goal.returns-then-value-eq0
unfolding flagged device_of phase_of
returns-then-value-eq0 c =
    let a = c.args.d in rw (eq-eqb (c.args.value % 2) 0 c.if-value-eq0.true) (λ i. record { phase = phase_of a.phase; enable = a.enable; flag = flag_kept a.flag i; taken = a.taken; treated = a.treated; folds = a.folds })

pub returns-else-value-eq0 : goal.returns-else-value-eq0
unfolding flagged device_of phase_of
returns-else-value-eq0 c =
    let a = c.args.d in rw (ne_eqb (c.args.value % 2) 0 c.if-value-eq0.false) (λ i. record { phase = phase_of a.phase; enable = a.enable; flag = flag_lost a.flag i; taken = a.taken; treated = a.treated; folds = a.folds })
