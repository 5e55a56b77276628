use mathlib.Core.Path.{refl}
use Rattle.definition.specs.Block.{block_count}
use Rattle.outcome.specs.Meaning.{answer_of}
use Rattle.convert.proofs.write.Goals as goal

pub returns : goal.returns
unfolding answer_of block_count
returns c = record { result_value = refl; output_after = c.write_file.ensures }
