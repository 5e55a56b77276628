-- What the program `prove-batch` makes of the bytes that it reads. They are words, as those of `prove` are: the sheet, of edition 1, the number of tables, their bounds,
-- the coefficients table by table and the coins, one after the other (02, CR 9).
use Rattle.std.specs.Prelude.{ℕ, suc, ◌+◌, List, get_or, take, drop}
use Rattle.definition.specs.Field.{spelling_of, word_count}
use Rattle.definition.specs.Prove.{Result}
use Rattle.definition.specs.Sheet.{edition1, sheet_length}
use Rattle.batch_definition.specs.Batch.{prove_batch, sum_of}
use Rattle.word_input.specs.Input.{after_test, sheet_part, whole_words_test, words_of}

-- the bytes that count: of a longer input the first 32,768. No order that is done is so long (BatchLength.antt)
unfoldable pub taken : List ℕ → List ℕ
taken bytes = take 32768 bytes

-- the number of tables, which stands after the sheet; 0 where it is missing
unfoldable pub table_count : List ℕ → ℕ
table_count w = get_or w (sheet_length edition1) 0

-- the bounds: as many words as that after it, or all that there are
unfoldable pub bounds_part : List ℕ → List ℕ
bounds_part w = take (table_count w) (drop (suc (sheet_length edition1)) w)

-- the coefficients: the words after the bounds, as many as these say together; and coins, which are all the rest
unfoldable pub coefficient_words : List ℕ → ℕ
coefficient_words w = word_count (spelling_of (get_or w 0 0)) (sum_of (bounds_part w))

unfoldable pub body_part : List ℕ → List ℕ
body_part w = drop (suc (sheet_length edition1) + table_count w) w

unfoldable pub prove_batch_words : List ℕ → List ℕ → Result
prove_batch_words w output =
    prove_batch (sheet_part edition1 w) (bounds_part w) (take (coefficient_words w) (body_part w)) (drop (coefficient_words w) (body_part w)) output

-- the program, from the bytes of its input
unfoldable pub prove_batch_input : List ℕ → List ℕ → Result
prove_batch_input bytes output = after_test (whole_words_test (taken bytes)) (prove_batch_words (words_of (taken bytes)) output) output
