use native.Mathlib.Omega.{arith}
use mathlib.Core.Bool.{false}
use mathlib.Core.Path.{ap, ◌∙◌}
use Rattle.edition.specs.Meaning.{edition_of}
use Rattle.ranges.specs.RoundsOfLayout.{long_enough}
use Rattle.ranges.proofs.Turns.{beyond}
use Rattle.ranges.proofs.ByKind.{fine, stream_there, stream_word}
use Rattle.ranges.proofs.out_of_range.Goals as goal

-- `ranges::out_of_range`: the walk over the words of a stream.
-- src/lib.rt:153:34
pub sheet_words-requires : goal.sheet_words-requires
sheet_words-requires c = tt

-- src/lib.rt:153:5
pub first_beyond-requires : goal.first_beyond-requires
first_beyond-requires c =
    let w = c.args.w.now in
    let e = edition_of c.args.e in
    let l = long_enough e w c.requires.w_in_bounds in record { fine = fine e w l c.requires.w_value; w_in_bounds = omega (arith, c.sheet_words.ensures, stream_there e w l c.requires.w_value c.requires.w_in_bounds) }

-- src/lib.rt:147:1
pub returns : goal.returns
returns c =
    let w = c.args.w.now in
    let e = edition_of c.args.e in
    stream_word e w (long_enough e w c.requires.w_in_bounds) c.requires.w_value (c.first_beyond.ensures ∙ ap (beyond false e w w) c.sheet_words.ensures)
