-- Verify of a batch is its reading, then the verdict by the plain stream that reading leaves. Assumes nothing.
use Prim.Native.Nat.{ℕ, ◌*◌, ◌/◌, ◌≤◌}
use native.Mathlib.Omega.{arith}
use mathlib.Core.List.{List}
use mathlib.Core.Path.{◌≡◌, sym, ap, ◌∙◌}
use lib.ListN.{length, get_or, take, drop}
use Rattle.batch_definition.specs.Batch.{batch_deciding, batch_reading, batch_words, verify_batch}
use Rattle.batches.proofs.BatchSizes.{batch_blocks}
use Rattle.batches.specs.Batched.{batch_number, batch_sheet, higher_by, plain_words}
use Rattle.batches.proofs.PlainStream.{enough}
use Rattle.batches.proofs.PlainVerdict.{full, some, tests}
use Rattle.batch_reading.specs.Stages.{ReadBatch}
use Rattle.definition.specs.Block.{block_count, stream_of}
use Rattle.definition.specs.Reading.{blocks_test}
use Rattle.definition.specs.Sheet.{edition1, sheet_of}
use Rattle.definition.specs.Verdict as definition
use Rattle.definition.specs.Verdict.{then_verdict}
use Rattle.layouts.specs.Tests.{equal_passes}
use Rattle.outcome.specs.Meaning.{outcome_of}
use Rattle.outcome.specs.declared.Outcome.{Outcome}
use Rattle.outcome.specs.declared.Outcome.TheVariants.{Accepted, Refused}

module _ (file : List ℕ) {r : Outcome} {words : List ℕ} (read : ReadBatch file r words) where
  pub refused_is : {number place : ℕ} → r ≡ Refused number place → record { outcome = definition.refused number place; reads = 0 } ≡ verify_batch file
  unfolding verify_batch then_verdict outcome_of
  refused_is e = ap (λ (o : definition.Outcome). then_verdict o (batch_deciding (stream_of file))) (ap outcome_of (sym e) ∙ read.outcome)

  module _ (e : r ≡ Accepted) where
    pub passes : batch_reading file ≡ definition.accepted
    unfolding outcome_of
    passes = sym read.outcome ∙ ap outcome_of e

    pub left : drop (higher_by (batch_sheet file) (batch_number file)) (take (127 * (length file / 512)) words) ≡ plain_words (stream_of file)
    left = read.stream passes

    pub few : 127 * (length file / 512) ≤ 12573
    unfolding blocks_test
    few =
        let h = sheet_of edition1 (stream_of file) in
        let N = get_or (stream_of file) 12 0 in
        let t = tests file passes in
        let same : length file / 512 ≡ block_count (batch_words h N) = equal_passes 4 (block_count (batch_words h N)) (length file / 512) (block_count (batch_words h N)) t.2 in
        omega (arith, same, batch_blocks (stream_of file) (enough (stream_of file) t.0 (some file passes) (full file passes)) t.0 N (drop 13 (stream_of file)) t.1)
