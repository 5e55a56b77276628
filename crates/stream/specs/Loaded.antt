-- What loading a file answers and leaves.
use Rattle.std.specs.Prelude.{ℕ, ◌*◌, ◌/◌, ◌≤◌, ◌≡◌, List, length, take}
use Rattle.std.proofs.Common.{arith, ◌∙◌, take_all}
use Rattle.std.specs.Prelude.{None}
use Rattle.outcome.specs.Meaning.{Found, place_of}
use Rattle.definition.specs.Lists.{first_true}
use Rattle.definition.specs.Block.{file_blocks, stream_of, wrong_checks}
use Rattle.layouts.specs.FileWords.{stream_length}

-- where the first wrong check is; and where there is none, the words of the file's blocks, up to so many of them
pub record Loaded (file : List ℕ) (most : ℕ) (found : Found) (words : List ℕ) : Type 0 where
  pub checked : place_of found ≡ first_true 0 (wrong_checks 0 (file_blocks file))
  pub front : found ≡ None → (m : ℕ) → m ≤ length file / 512 → m ≤ most → take (127 * m) words ≡ take (127 * m) (stream_of file)

module _ (file : List ℕ) {most : ℕ} {found : Found} {words : List ℕ} (loaded : Loaded file most found words) (right : found ≡ None) where
  -- the whole stream, of a file of no more blocks
  pub loaded_all : length file / 512 ≤ most → take (127 * (length file / 512)) words ≡ stream_of file
  loaded_all h =
      loaded.front right (length file / 512) (omega arith) h
      ∙ take_all (127 * (length file / 512)) (stream_of file) (omega (arith, stream_length file))
