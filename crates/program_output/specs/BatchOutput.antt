-- What `prove-batch` writes is the same whatever the output was, and 99 blocks are long enough for every batch.
use Rattle.std.specs.Prelude.{ℕ, ◌*◌, ◌≤◌, List, ◌++◌, ◌≡◌, length, take, drop}
use Rattle.std.proofs.Common.{arith, ◌∙◌}
use Rattle.std.proofs.Math.Path.{sym, ap}
use Rattle.batch_definition.specs.Batch.{batch_coefficients_test, batch_coins_test, batch_input_tests, batch_layout, batch_out_tests, batch_range_test, batch_test, batch_words, honest_batch, prove_batch, sum_of}
use Rattle.definition.specs.Block.{block_count, file_of}
use Rattle.definition.specs.Layout.{Kind, coin_kinds}
use Rattle.definition.specs.Prove.{finish, output_test, sheet_length_test}
use Rattle.definition.specs.Reading.{sheet_test}
use Rattle.definition.specs.Sheet.{Sheet, edition1, sheet_length, sheet_of}
use Rattle.definition.specs.Verdict.{Outcome, ◌then◌, accepted}
use Rattle.layouts.specs.Tests.{equal_passes}
use Rattle.batches.proofs.BatchCompleteness.{done_allowed}
use Rattle.batches.proofs.BatchSizes.{batch_blocks}
use Rattle.batches.proofs.BatchStream.{file_size}
use Rattle.word_input.specs.Input.{sheet_part, whole_words_test, words_of}
use Rattle.batch_bytes.specs.BatchInput.{body_part, bounds_part, coefficient_words, prove_batch_input, prove_batch_words, taken}
use Rattle.program_output.specs.AnyOutput.{Alike, after_alike, enough, enough_for, finish_alike, room_long, then_same}
use Rattle.program_output.specs.Output.{batch_written, room_of, written}

module _ (w bounds f coins : List ℕ) where
  abbrev h : Sheet
  h = sheet_of edition1 w

  abbrev ks : List Kind
  ks = coin_kinds (batch_layout (sheet_of edition1 w) (length bounds))

  abbrev due : ℕ
  due = block_count (batch_words (sheet_of edition1 w) (length bounds))

  abbrev tests : List ℕ → Outcome
  tests output = sheet_length_test edition1 w then sheet_test edition1 w then batch_input_tests (sheet_of edition1 w) bounds f coins output

  tests_long : (a b : List ℕ) → 50688 ≤ length a → 50688 ≤ length b → tests a ≡ tests b
  unfolding sheet_length_test batch_input_tests
  tests_long a b la lb =
      then_same (sheet_length_test edition1 w) _ _ (λ s. then_same (sheet_test edition1 w) _ _ (λ k. then_same (batch_test h (length bounds) bounds) _ _ (λ r.
      let few : due ≤ 99 = batch_blocks w (omega (arith, equal_passes 10 0 (length w) (sheet_length edition1) s)) k (length bounds) bounds r in
      let room : output_test due (512 * due) (length a) ≡ output_test due (512 * due) (length b) = enough due (length a) (omega arith) ∙ sym (enough due (length b) (omega arith)) in
      ap (λ (t : Outcome). batch_coefficients_test h bounds f then batch_coins_test ks coins then batch_range_test h (sum_of bounds) ks (f ++ coins) then batch_out_tests h ks coins then t) room)))

  tests_pass : (output : List ℕ) → tests output ≡ accepted → (512 * due ≤ length output) × (length (file_of (honest_batch w bounds f coins)) ≡ 512 * due)
  unfolding finish prove_batch
  tests_pass output e =
      let r = done_allowed w bounds f coins output due (ap (λ (t : Outcome). (finish t due (file_of (honest_batch w bounds f coins)) output).answer) e) in
      (enough_for due (length output) r.1, file_size r.0)

  batch_alike : Alike 50688 (prove_batch w bounds f coins)
  unfolding prove_batch
  batch_alike = finish_alike tests due (file_of (honest_batch w bounds f coins)) tests_long tests_pass

-- and from the bytes that the program reads
pub batch_input_alike : (bytes : List ℕ) → Alike 50688 (prove_batch_input bytes)
unfolding prove_batch_input prove_batch_words
batch_input_alike bytes =
    let w = words_of (taken bytes) in
    let due = coefficient_words w in
    after_alike (whole_words_test (taken bytes)) (prove_batch_words w) (batch_alike (sheet_part edition1 w) (bounds_part w) (take due (body_part w)) (drop due (body_part w)))

-- So what the program writes is what prove writes on any output of 99 blocks or more.
pub batch_any_output : (bytes output : List ℕ) → 50688 ≤ length output → written (prove_batch_input bytes output) ≡ batch_written bytes
unfolding batch_written
batch_any_output bytes output long = (batch_input_alike bytes).same output (room_of 50688) long (room_long 50688)
