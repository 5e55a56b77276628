use Rattle.device_definition.specs.Device.{took_byte}
use Rattle.registers.specs.Meaning.{device_of, phase_of}
use native.Mathlib.Numerals.{add-one}
use Rattle.registers.proofs.took_byte.Goals as goal

pub returns : goal.returns
unfolding took_byte device_of phase_of
returns c =
    let a = c.args.d in λ i. record { phase = phase_of a.phase; enable = a.enable; flag = a.flag; taken = add-one a.taken i; treated = a.treated; folds = a.folds }
