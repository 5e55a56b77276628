use native.Mathlib.Omega.{arith}
use mathlib.Core.Bool.{not}
use lib.Dec.{eqb}
use lib.ListN.{get_or}
use Rattle.registers.specs.Meaning.{device_of}
use Rattle.device_words.specs.Words.{device_in}
use Rattle.device_words.proofs.unpack.Goals as goal

pub overflow_cast-result : goal.overflow_cast-result
overflow_cast-result c = omega (arith, c.shared_slice_known-8-1.given 6)

pub overflow_cast-result-2 : goal.overflow_cast-result-2
overflow_cast-result-2 c = omega (arith, c.shared_slice_known-9-1.given 7)

pub returns : goal.returns
unfolding device_of device_in
returns c =
    let w = c.args.state.now in
    λ i. record {
      phase = c.phase_of-phase.ensures i;
      enable = not (eqb (get_or w 4 0) 0);
      flag = not (eqb (get_or w 5 0) 0);
      taken = get_or w 6 0;
      treated = get_or w 7 0;
      folds = c.folds_of-folds.ensures i;
    }
