use mathlib.Core.Path.{refl}
use lib.ListN.{replicate}
use Rattle.device_words.proofs.Putting.{folds_put}
use Rattle.device_words.proofs.folds_of.Goals as goal

pub returns : goal.returns
returns c =
    folds_put (replicate 1152 0) c.args.state.now c.put.new.out c.requires refl c.put.ensures
