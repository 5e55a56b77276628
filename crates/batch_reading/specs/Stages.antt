-- Reading a batch stage by stage (document 02, CR 9: 1 2 3 15 4 5 6), over what is loaded.
use Rattle.std.specs.Prelude.{ℕ, ◌*◌, ◌/◌, ◌≤◌, List, ◌≡◌, length, get_or, take, drop}
use Rattle.batch_definition.specs.Batch.{batch_reading, batch_test, batch_tests, batch_words}
use Rattle.batches.specs.Batched.{batch_number, batch_sheet, higher_by, plain_words}
use Rattle.batches.specs.BodyTests.{batch_body}
use Rattle.definition.specs.Block.{stream_of}
use Rattle.definition.specs.Reading.{blocks_test, sheet_test}
use Rattle.definition.specs.Sheet.{edition1, sheet_of}
use Rattle.definition.specs.Verdict as definition
use Rattle.definition.specs.Verdict.{◌then◌}
use Rattle.outcome.specs.declared.Outcome.{Outcome}
use Rattle.outcome.specs.Meaning.{outcome_of}

-- 3, 15 and 4
unfoldable pub number_tests : ℕ → List ℕ → definition.Outcome
number_tests blocks w =
    let h = sheet_of edition1 w in
    let count = get_or w 12 0 in
    sheet_test edition1 w then batch_test h count (drop 13 w) then blocks_test (batch_words h count) blocks

-- the words of a batch that has passed them: all words due are there
pub record Ruled (w : List ℕ) : Type 0 where
  pub sheet : sheet_test edition1 w ≡ definition.accepted
  pub rules : batch_test (sheet_of edition1 w) (get_or w 12 0) (drop 13 w) ≡ definition.accepted
  pub full : batch_words (sheet_of edition1 w) (get_or w 12 0) ≤ length w

-- what 5 and 6 answer of such words, and what they leave
pub record BodyRead (w : List ℕ) (r : Outcome) (words : List ℕ) : Type 0 where
  pub outcome : outcome_of r ≡ batch_body w
  pub stream : batch_body w ≡ definition.accepted → drop (higher_by (sheet_of edition1 w) (get_or w 12 0)) words ≡ plain_words w

-- what all tests past 2 answer of a stream's words, and what they leave
pub record StreamRead (blocks : ℕ) (w : List ℕ) (r : Outcome) (words : List ℕ) : Type 0 where
  pub outcome : outcome_of r ≡ batch_tests blocks w
  pub stream : batch_tests blocks w ≡ definition.accepted → drop (higher_by (sheet_of edition1 w) (get_or w 12 0)) (take (127 * blocks) words) ≡ plain_words w

-- what reading answers and leaves: where it accepts, the batch's plain stream, from the number of words on by which a batch has more
pub record ReadBatch (file : List ℕ) (r : Outcome) (words : List ℕ) : Type 0 where
  pub outcome : outcome_of r ≡ batch_reading file
  pub stream : batch_reading file ≡ definition.accepted → drop (higher_by (batch_sheet file) (batch_number file)) (take (127 * (length file / 512)) words) ≡ plain_words (stream_of file)
