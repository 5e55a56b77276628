-- The words of an input: their number, and each of them.
use Rattle.std.specs.Prelude.{ℕ, ◌*◌, ◌/◌, ◌<◌, ◌≡◌, length, get_or}
use Rattle.std.proofs.Math.Path.{ap}
use Rattle.std.proofs.Common.{◌∙◌}
use mathlib.Core.List.{List, []}
use Rattle.std.proofs.Math.ListN.{length-map, get_or-map}
use Rattle.definition.specs.Lists.{chunks}
use Rattle.definition.specs.Block.{word_of}
use Rattle.list_laws.specs.Chunks.{chunks_at, chunks_length}
use Rattle.layouts.specs.FileWords.{word_at}
use Rattle.word_input.specs.Input.{words_of}

module _ (bytes : List ℕ) where
  pub words_length : length (words_of bytes) ≡ length bytes / 4
  unfolding words_of
  words_length = length-map (chunks (length bytes / 4) 4 bytes) word_of ∙ chunks_length (length bytes / 4) 4 bytes

  pub words_at : (i : ℕ) → i < length bytes / 4 → get_or (words_of bytes) i 0 ≡ word_at bytes (4 * i)
  unfolding words_of word_of
  words_at i h = get_or-map word_of (chunks (length bytes / 4) 4 bytes) i [] ∙ ap word_of (chunks_at (length bytes / 4) 4 bytes i h)
