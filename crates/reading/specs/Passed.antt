-- What a file that passes reading has: a sheet without a fault, as many blocks as it needs, every word in range.
use Rattle.std.specs.Prelude.{ℕ, ◌/◌, ◌≤◌, ◌≡◌, List, length}
use Rattle.std.proofs.Common.{arith}
use Rattle.definition.specs.Sheet.{Edition, sheet_length, sheet_of}
use Rattle.definition.specs.Layout.{layout, words_due}
use Rattle.definition.specs.Block.{stream_of}
use Rattle.definition.specs.Verdict.{accepted}
use Rattle.definition.specs.Reading.{sheet_test, range_test, reading}
use Rattle.layouts.proofs.DueSizes.{blocks_most}
use Rattle.layouts.specs.Passed.{passed}
use Rattle.ranges.specs.RoundsOfLayout.{long_enough}

module _ (ed : Edition) (file : List ℕ) (e : reading ed file ≡ accepted) where
  pub sheet_passes : sheet_test ed (stream_of file) ≡ accepted
  sheet_passes = (passed ed file e).sheet

  pub range_passes : range_test (sheet_of ed (stream_of file)) (sheet_length ed) (layout (sheet_of ed (stream_of file))) (stream_of file) ≡ accepted
  range_passes = (passed ed file e).range

  -- all words due are there
  pub words_there : words_due ed (sheet_of ed (stream_of file)) ≤ length (stream_of file)
  words_there = (passed ed file e).due

  -- no more blocks than are loaded
  pub few_blocks : length file / 512 ≤ 67
  few_blocks = omega (arith, (passed ed file e).blocks, blocks_most ed (stream_of file) (long_enough ed (stream_of file) words_there) sheet_passes)
