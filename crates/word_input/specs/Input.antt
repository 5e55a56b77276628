-- What the programs `prove`, `prove2`, `domains` and `domains2` make of the bytes that they read. A word is four bytes, the least significant first (01, Fields and the
-- sheet); prove takes sheet, coefficients and coins (01, Verify, prove, encode), and here they stand one after the other. `prove2` takes a sheet of edition 2.
use Rattle.std.specs.Prelude.{ℕ, ◌/◌, ◌%◌, not, List, map, eqb, length, get_or, take, drop}
use Rattle.definition.specs.Lists.{chunks}
use Rattle.definition.specs.Block.{word_of}
use Rattle.definition.specs.Field.{spelling_of, word_count}
use Rattle.definition.specs.Verdict.{Outcome, accepted, refused, refuse_if}
use Rattle.definition.specs.Sheet.{Edition, edition1, sheet_length}
use Rattle.definition.specs.Prove.{Result, refusal, finish, prove_in}

-- the bytes that count: of a longer input the first 16,384. No order that is done is so long (Length.antt)
unfoldable pub taken : List ℕ → List ℕ
taken bytes = take 16384 bytes

-- 10: no whole number of words (place 0)
unfoldable pub whole_words_test : List ℕ → Outcome
whole_words_test bytes = refuse_if 10 0 (not (eqb (length bytes % 4) 0))

unfoldable pub words_of : List ℕ → List ℕ
words_of bytes = map word_of (chunks (length bytes / 4) 4 bytes)

-- the words of bytes that all count, at the front of an output; and those of an input
unfoldable pub place_words : List ℕ → List ℕ → Result
place_words bytes output = finish (whole_words_test bytes) (length (words_of bytes)) (words_of bytes) output

abbrev pub take_words : List ℕ → List ℕ → Result
take_words bytes = place_words (taken bytes)

-- an order's words: the sheet, as long as the edition's, the words of as many coefficients as its word 2 says, d0, or none where that word is missing, and
-- coins, which are all the rest
unfoldable pub coefficient_words : List ℕ → ℕ
coefficient_words w = word_count (spelling_of (get_or w 0 0)) (get_or w 2 0)

unfoldable pub sheet_part : Edition → List ℕ → List ℕ
sheet_part e w = take (sheet_length e) w

unfoldable pub coefficients_part : Edition → List ℕ → List ℕ
coefficients_part e w = take (coefficient_words w) (drop (sheet_length e) w)

unfoldable pub coins_part : Edition → List ℕ → List ℕ
coins_part e w = drop (coefficient_words w) (drop (sheet_length e) w)

unfoldable pub prove_words : Edition → List ℕ → List ℕ → Result
prove_words e w output = prove_in e (sheet_part e w) (coefficients_part e w) (coins_part e w) output

-- a result, where a test is passed; else its refusal, and the output as before
unfoldable pub after_test : Outcome → Result → List ℕ → Result
after_test accepted result output = result
after_test (refused number place) result output = record { answer = refusal number place; output = output }

-- a program that proves, from the bytes of its input: under an edition, and `prove`, which is under edition 1
unfoldable pub prove_input_in : Edition → List ℕ → List ℕ → Result
prove_input_in e bytes output = after_test (whole_words_test (taken bytes)) (prove_words e (words_of (taken bytes)) output) output

abbrev pub prove_input : List ℕ → List ℕ → Result
prove_input = prove_input_in edition1
