-- Reading stage by stage, over what is loaded.
use Rattle.std.specs.Prelude.{ℕ, ◌*◌, ◌/◌, ◌≤◌, ◌≡◌, List, length, take}
use Rattle.definition.specs.Block.{stream_of}
use Rattle.definition.specs.Sheet.{Edition}
use Rattle.definition.specs.Verdict as definition
use Rattle.definition.specs.Reading.{reading}
use Rattle.outcome.specs.declared.Outcome.{Outcome}
use Rattle.outcome.specs.Meaning.{outcome_of}

-- the words w of a stream in so many blocks stand at the front of the loaded ones, up to the most blocks that are kept
pub record Loads (most : ℕ) (words : List ℕ) (blocks : ℕ) (w : List ℕ) : Type 0 where
  pub size : length w ≡ 127 * blocks
  pub front : (m : ℕ) → m ≤ blocks → m ≤ most → take (127 * m) words ≡ take (127 * m) w

-- what reading answers and leaves
pub record Read (ed : Edition) (file : List ℕ) (r : Outcome) (words : List ℕ) : Type 0 where
  pub outcome : outcome_of r ≡ reading ed file
  pub stream : reading ed file ≡ definition.accepted → take (127 * (length file / 512)) words ≡ stream_of file
