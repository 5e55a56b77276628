-- What the program `nearest` makes of the bytes that it reads. They are words, as those of `prove` are: the sheet, of edition 1, and the table, which is all the rest
-- (02, CR 14). What it writes are words too.
use Rattle.std.specs.Prelude.{ℕ, take, drop}
use mathlib.Core.List.{List, [], flat_map}
use Rattle.definition.specs.Block.{bytes_of}
use Rattle.definition.specs.Line.{refusal_line}
use Rattle.definition.specs.Prove.{Answer, Result, done, refusal}
use Rattle.definition.specs.Sheet.{edition1, sheet_length}
use Rattle.nearest_definition.specs.Nearest.{nearest}
use Rattle.word_input.specs.Input.{after_test, sheet_part, whole_words_test, words_of}
use Rattle.program_output.specs.Output.{Written, room_of}

-- the bytes that count: of a longer input the first 32,768. No order that is done is so long (NearestLength.antt)
unfoldable pub taken : List ℕ → List ℕ
taken bytes = take 32768 bytes

unfoldable pub nearest_of_words : List ℕ → List ℕ → Result
nearest_of_words w output = nearest (sheet_part edition1 w) (drop (sheet_length edition1) w) output

-- the answer and the output's words, from the bytes of an input
unfoldable pub nearest_input : List ℕ → List ℕ → Result
nearest_input bytes output = after_test (whole_words_test (taken bytes)) (nearest_of_words (words_of (taken bytes)) output) output

-- done: the bytes of the words written, and nothing behind them; refused: none, and number and place as a line
unfoldable pub written_words : Answer → List ℕ → Written
written_words (done count) output = record { output = flat_map bytes_of (take count output); error = [] }
written_words (refusal number place) output = record { output = []; error = refusal_line number place }

unfoldable pub words_written : Result → Written
words_written r = written_words r.answer r.output

-- `nearest`, out of an output of 3,073 words: that no sheet needs more, and that it may be any, is NearestOutput.antt
unfoldable pub nearest_written : List ℕ → Written
nearest_written bytes = words_written (nearest_input bytes (room_of 3073))
