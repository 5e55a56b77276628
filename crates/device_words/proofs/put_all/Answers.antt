use native.Mathlib.Omega.{arith}
use Rattle.device_words.proofs.Putting.{all_words}
use Rattle.device_words.proofs.put_all.Goals as goal

pub returns : goal.returns
returns c =
    all_words c.args.first c.args.folds c.args.state.now c.put.new.out c.put-2.new.out (omega arith) (omega arith) c.requires c.put.ensures c.put-2.ensures
