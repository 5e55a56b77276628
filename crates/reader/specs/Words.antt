-- A stream's words by their numbers, and what each case of an answer in code says. Assumes nothing.
use Rattle.std.specs.Prelude.{ℕ, zero, suc, cond, List, [], ◌∷◌, ltb, length, take}
use Rattle.std.specs.Prelude.{Option as Optional, None, Some}
use Rattle.std.proofs.Math.Option.{Option, none, some}
use Rattle.definition.specs.Block.{stream_of}
use Rattle.definition.specs.Verdict.{refuse_if, ◌then◌}
use Rattle.definition.specs.Sheet.{edition1, sheet_length}
use Rattle.definition.specs.Prove.{Result, finish, output_test}

-- the word with number n, from 0 on, or none past the end
unfoldable pub word_in : List ℕ → ℕ → Option ℕ
word_in [] n = none
word_in (word ∷ words) zero = some word
word_in (word ∷ words) (suc n) = word_in words n

-- the number after n, where there is a word with number n; at the end it stays
unfoldable pub number_after : List ℕ → ℕ → ℕ
number_after words n = cond (ltb n (length words)) (suc n) n

-- The sheet of edition 1 that a file holds, judged or not. 1: the file is shorter than one block (place 0). 11: the output is shorter than 12 words (12).
unfoldable pub sheet_words : List ℕ → List ℕ → Result
sheet_words file output =
    finish (refuse_if 1 0 (ltb (length file) 512) then output_test (sheet_length edition1) (sheet_length edition1) (length output)) (sheet_length edition1) (take (sheet_length edition1) (stream_of file)) output

unfoldable pub value_of : Optional ℕ → Option ℕ
value_of (Some word) = some word
value_of None = none
