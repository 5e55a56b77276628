-- No order that is done is longer than 16,432 bytes: 12 words of sheet and at most 4,096 of table. So the limit of 32,768 bytes turns no order away that would be done
-- without it.
use Rattle.std.specs.Prelude.{ℕ, ◌%◌, ◌≤◌, List, ◌≡◌, length, drop}
use Rattle.std.proofs.Common.{arith, length-drop, length-take}
use Rattle.definition.specs.Prove.{done, sheet_length_test}
use Rattle.definition.specs.Reading.{sheet_test}
use Rattle.definition.specs.Sheet.{Sheet, edition1, sheet_of}
use Rattle.nearest_definition.specs.Nearest.{entries_test, nearest, nearest_tests}
use Rattle.layouts.proofs.Lawful.{lawful}
use Rattle.layouts.specs.Tests.{equal_passes, then_passes}
use Rattle.completeness.proofs.ProveAccepted.{finish_done}
use Rattle.word_input.specs.Input.{sheet_part, whole_words_test, words_of}
use Rattle.word_input.specs.InputWords.{done_after}
use Rattle.word_input.specs.WordLaws.{words_length}
use Rattle.nearest_bytes.specs.NearestInput.{nearest_input, nearest_of_words, taken}

-- the sheet and the table of an order that is done
order_short : (w table output : List ℕ) (count : ℕ) → (nearest w table output).answer ≡ done count → (length w ≡ 12) × (length table ≤ 4096)
unfolding nearest nearest_tests sheet_length_test entries_test
order_short w table output count e =
    let h : Sheet = sheet_of edition1 w in
    let t = (finish_done _ _ count _ output e).0 in
    let a = then_passes (sheet_length_test edition1 w) _ t in
    let b = then_passes (sheet_test edition1 w) _ a.1 in
    let c = then_passes (nearest_tests h table output) _ b.1 in
    let d = then_passes (entries_test h table) _ c.0 in
    let long : length w ≡ 12 = equal_passes 10 0 (length w) 12 a.0 in
    (long, omega (arith, equal_passes 10 1 (length table) _ d.0, (lawful edition1 w (omega (arith, long)) b.0).words))

pub done_short : (bytes output : List ℕ) (count : ℕ) → (nearest_input bytes output).answer ≡ done count → length bytes ≤ 16432
unfolding nearest_input nearest_of_words whole_words_test sheet_part taken
done_short bytes output count e =
    let w = words_of (taken bytes) in
    let t = done_after (whole_words_test (taken bytes)) (nearest_of_words w output) output count e in
    let whole : length (taken bytes) % 4 ≡ 0 = equal_passes 10 0 (length (taken bytes) % 4) 0 t.0 in
    let short = order_short (sheet_part edition1 w) (drop 12 w) output count t.1 in
    omega (arith, whole, short.1, length-drop 12 w, words_length (taken bytes), length-take 32768 bytes)
