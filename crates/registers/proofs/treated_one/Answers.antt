use native.Mathlib.Numerals.{add-one}
use Rattle.device_definition.specs.Device.{treated_one}
use Rattle.registers.specs.Meaning.{device_of, phase_of}
use Rattle.registers.proofs.treated_one.Goals as goal

pub returns : goal.returns
unfolding treated_one device_of phase_of
returns c =
    let a = c.args.d in
    λ i. record {
      phase = phase_of a.phase;
      enable = a.enable;
      flag = a.flag;
      taken = a.taken;
      treated = add-one a.treated i;
      folds = c.with_fold-folds.ensures i;
    }
