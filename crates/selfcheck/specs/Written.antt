-- How many blocks an answer says were written.
use Rattle.std.specs.Prelude.{ℕ}
use Rattle.definition.specs.Prove.{Answer, done, refusal}

unfoldable pub blocks_written : Answer → ℕ
blocks_written (done count) = count
blocks_written (refusal number place) = 0
