-- What the programs for the shell write of the bytes that they read: "`check` reads it on standard input, at most the first 65536 bytes (no accepted file is so
-- long), and prints `accepted 0 0 4` and a line end: outcome, number, place, reads (`refused` otherwise)" (01, A transcript by hand).
use Rattle.std.specs.Prelude.{ℕ, ◌*◌, List, [], take, replicate}
use Rattle.definition.specs.Sheet.{Edition, edition1, edition2}
use Rattle.definition.specs.Line.{line_of, refusal_line}
use Rattle.definition.specs.Reading.{reading}
use Rattle.definition.specs.Verify.{verify_in}
use Rattle.definition.specs.Prove.{Answer, Result, done, refusal}
use Rattle.definition.specs.Convert.{to_edition1, to_edition2}
use Rattle.batch_definition.specs.Batch.{verify_batch}
use Rattle.word_input.specs.Input.{prove_input_in}
use Rattle.batch_bytes.specs.BatchInput.{prove_batch_input}

-- `check`, and under edition 2 `check2`: the line of the verdict
unfoldable pub check_text : Edition → List ℕ → List ℕ
check_text e bytes = line_of (verify_in e (take 65536 bytes))

-- `check-batch`: the same of a batch (02, CR 9)
unfoldable pub check_batch_text : List ℕ → List ℕ
check_batch_text bytes = line_of (verify_batch (take 65536 bytes))

-- `read` and `read2`: the first of verify's two steps (02, CR 7), as such a line with 0 reads
unfoldable pub read_text : Edition → List ℕ → List ℕ
read_text e bytes = line_of (record { outcome = reading e (take 65536 bytes); reads = 0 })

-- What a program that writes a file leaves on standard output and on standard error.
pub record Written : Type 0 where
  pub output : List ℕ
  pub error : List ℕ

-- done: "The prover's file is its blocks alone" (01, The word stream and its blocks); refused: no block, and number and place as a line
unfoldable pub written_for : Answer → List ℕ → Written
written_for (done blocks) output = record { output = take (512 * blocks) output; error = [] }
written_for (refusal number place) output = record { output = []; error = refusal_line number place }

unfoldable pub written : Result → Written
written r = written_for r.answer r.output

-- "out of any output that is long enough for them": here one of 67 blocks; that none needs more, and that it may be any, is AnyOutput.antt
unfoldable pub room_of : ℕ → List ℕ
room_of n = replicate n 0

abbrev pub room : List ℕ
room = room_of 34304

-- `prove` and `prove2`
unfoldable pub prove_written : Edition → List ℕ → Written
prove_written e bytes = written (prove_input_in e bytes room)

-- `convert`, by the edition that is written
unfoldable pub convert_written : Edition → List ℕ → Written
convert_written edition1 bytes = written (to_edition1 (take 65536 bytes) room)
convert_written edition2 bytes = written (to_edition2 (take 65536 bytes) room)

-- `prove-batch`: a batch has up to 99 blocks, and none needs more (BatchOutput.antt)
unfoldable pub batch_written : List ℕ → Written
batch_written bytes = written (prove_batch_input bytes (room_of 50688))
