-- No order that is done is longer than 9,512 bytes in edition 1 and 9,536 in edition 2: 12 or 18 words of sheet, at most 2,048 words of coefficients and at most 318
-- of coins. So the limit of 16,384 bytes turns no order away that would be done without it.
use Rattle.std.specs.Prelude.{ℕ, ◌+◌, ◌*◌, ◌%◌, ◌≤◌, ◌≡◌, List, length, get_or, take, drop}
use Rattle.std.proofs.Common.{arith, ap₂, length-drop, length-take, get_or-take}
use Rattle.definition.specs.Field.{Spelling, one, four, spelling_of, word_count}
use Rattle.definition.specs.Prove.{done}
use Rattle.definition.specs.Reading.{sheet_test}
use Rattle.definition.specs.Sheet.{Edition, sheet_length, sheet_of}
use Rattle.definition.specs.Verdict.{accepted}
use Rattle.completeness.proofs.Allowed.{allowed_count, allowed_enough, allowed_long}
use Rattle.layouts.proofs.DueSizes.{coins_most}
use Rattle.completeness.specs.Numbered.{Allowed}
use Rattle.layouts.proofs.Lawful.{lawful}
use Rattle.layouts.proofs.PlainSheet.{sheet_plain}
use Rattle.completeness.proofs.ProveAccepted.{done_allowed}
use Rattle.layouts.specs.SheetRules.{long_enough, short_sheet}
use Rattle.layouts.specs.Tests.{equal_passes}
use Rattle.word_input.specs.Input.{taken, whole_words_test, words_of, coefficient_words, sheet_part, coefficients_part, coins_part, prove_words, prove_input_in}
use Rattle.word_input.specs.InputWords.{done_after}
use Rattle.word_input.specs.WordLaws.{words_length}

half_words : (σ : Spelling) (d n : ℕ) → 2 * d ≤ n → word_count σ n ≤ 4096 → word_count σ d ≤ 2048
unfolding word_count
half_words one d n a b = omega (arith, a, b)
half_words four d n a b = omega (arith, a, b)

few_coefficients : (ed : Edition) (s : List ℕ) → sheet_length ed ≤ length s → sheet_test ed s ≡ accepted → word_count (spelling_of (get_or s 0 0)) (get_or s 2 0) ≤ 2048
unfolding sheet_of
few_coefficients ed s long passed =
    half_words (spelling_of (get_or s 0 0)) (get_or s 2 0) (get_or s 1 0) (omega (arith, (sheet_plain ed s passed).plain.degree_range.1)) (lawful ed s long passed).words

words_short : (ed : Edition) (w : List ℕ) → Allowed ed (sheet_part ed w) (coefficients_part ed w) (coins_part ed w) → length w ≤ sheet_length ed + 2366
unfolding coefficient_words sheet_part coins_part
words_short ed w ok =
    let n = sheet_length ed in
    let s = take n w in
    let long : 12 ≤ length s = long_enough ed s (allowed_enough ok) in
    let c : ℕ = coefficient_words w in
    let words : word_count (spelling_of (get_or s 0 0)) (get_or s 2 0) ≡ c = ap₂ (λ (a b : ℕ). word_count (spelling_of a) b) (get_or-take n w 0 0 (omega (arith, allowed_long ok))) (get_or-take n w 2 0 (omega (arith, allowed_long ok))) in
    omega (
      arith,
      allowed_long ok,
      allowed_count ok,
      length-take n w,
      length-drop c (drop n w),
      length-drop n w,
      words,
      few_coefficients ed s (allowed_enough ok) ok.sheet,
      coins_most ed s (allowed_enough ok) ok.sheet,
    )

pub done_short : (ed : Edition) (bytes output : List ℕ) (count : ℕ) → (prove_input_in ed bytes output).answer ≡ done count → length bytes ≤ 4 * sheet_length ed + 9464
unfolding prove_input_in prove_words whole_words_test taken
done_short ed bytes output count e =
    let w = words_of (taken bytes) in
    let t = done_after (whole_words_test (taken bytes)) (prove_words ed w output) output count e in
    let whole : length (taken bytes) % 4 ≡ 0 = equal_passes 10 0 (length (taken bytes) % 4) 0 t.0 in
    let ok = (done_allowed ed (sheet_part ed w) (coefficients_part ed w) (coins_part ed w) output count t.1).0 in
    omega (arith, words_short ed w ok, short_sheet ed, words_length (taken bytes), length-take 16384 bytes)
