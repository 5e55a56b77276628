use Rattle.spelling.specs.Words.{quads_length}
use Rattle.quartic.proofs.count.Goals as goal

-- `quartic::count` meets its contract. Assumes nothing.
pub returns : goal.returns
returns c = quads_length c.args.w.now
