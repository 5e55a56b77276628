-- No order for a batch that is done is longer than 17,756 bytes: 12 words of sheet, the number, up to 8 bounds, at most 4,096 words of coefficients and at most 322 of
-- coins, those of r among them. So the limit of 32,768 bytes turns no order away that would be done without it.
use Rattle.std.specs.Prelude.{ℕ, ◌+◌, ◌%◌, ◌≤◌, ◌≡◌, List, length, take, drop}
use Rattle.std.proofs.Common.{arith, length-drop, length-take}
use Rattle.definition.specs.Prove.{done}
use Rattle.definition.specs.Sheet.{edition1, sheet_of}
use Rattle.layouts.proofs.DueSizes.{coins_most}
use Rattle.layouts.specs.Spellings.{count_one}
use Rattle.layouts.specs.Tests.{equal_passes}
use Rattle.batches.proofs.AllowedBatches.{batch_count, batch_enough, batch_number, batch_words_lem}
use Rattle.batches.proofs.BatchCompleteness.{done_allowed}
use Rattle.batches.specs.Batched.{AllowedBatch}
use Rattle.batches.proofs.ProverTests.{coins_long}
use Rattle.batch_sheet.proofs.SizeLaws.{coefficients_small}
use Rattle.word_input.specs.Input.{sheet_part, whole_words_test, words_of}
use Rattle.word_input.specs.InputWords.{done_after}
use Rattle.word_input.specs.WordLaws.{words_length}
use Rattle.batch_bytes.specs.BatchInput.{body_part, bounds_part, coefficient_words, prove_batch_input, prove_batch_words, table_count, taken}

words_short : (w : List ℕ) → AllowedBatch (sheet_part edition1 w) (bounds_part w) (take (coefficient_words w) (body_part w)) (drop (coefficient_words w) (body_part w)) → length w ≤ 4439
unfolding bounds_part body_part
words_short w ok =
    let s = sheet_part edition1 w in
    let h = sheet_of edition1 s in
    let c = coefficient_words w in
    let body = body_part w in
    omega (
      arith,
      length-take (table_count w) (drop 13 w),
      length-drop 13 w,
      batch_number ok,
      length-drop (13 + table_count w) w,
      length-take c body,
      length-drop c body,
      batch_words_lem ok,
      coefficients_small s (bounds_part w) ok.sheet ok.bounded,
      batch_count ok,
      coins_long h (length (bounds_part w)),
      coins_most edition1 s (batch_enough ok) ok.sheet,
      (count_one h.spelling).1,
    )

pub done_short : (bytes output : List ℕ) (count : ℕ) → (prove_batch_input bytes output).answer ≡ done count → length bytes ≤ 17756
unfolding prove_batch_input prove_batch_words whole_words_test taken
done_short bytes output count e =
    let w = words_of (taken bytes) in
    let t = done_after (whole_words_test (taken bytes)) (prove_batch_words w output) output count e in
    let whole : length (taken bytes) % 4 ≡ 0 = equal_passes 10 0 (length (taken bytes) % 4) 0 t.0 in
    let ok = (done_allowed (sheet_part edition1 w) (bounds_part w) (take (coefficient_words w) (body_part w)) (drop (coefficient_words w) (body_part w)) output count t.1).0 in
    omega (arith, words_short w ok, words_length (taken bytes), length-take 32768 bytes)
