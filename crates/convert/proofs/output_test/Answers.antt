use Rattle.definition.specs.Block.{block_count}
use Rattle.convert.specs.Stages.{long_enough_for, too_short}
use Rattle.convert.proofs.output_test.Goals as goal

pub returns-then-size-blocks : goal.returns-then-size-blocks
unfolding block_count
returns-then-size-blocks c = let a = c.args in too_short a.count a.size c.if-size-blocks.true

pub returns : goal.returns
unfolding block_count
returns c = let a = c.args in long_enough_for a.count a.size c.if-size-blocks.false
