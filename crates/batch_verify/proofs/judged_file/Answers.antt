use native.Mathlib.Omega.{arith}
use Rattle.list_laws.specs.Zeros.{length_zeros}
use Rattle.batch_verify.proofs.FileLaws.{block_there, front_twelve, plain_handed, shift_asks, shift_inside, verdict_is}
use Rattle.batch_verify.proofs.judged_file.Goals as goal

pub word-count-requires : goal.word-count-requires
word-count-requires c =
    omega (arith, block_there c.args.file.now c.requires.file_value)

pub shift-shift-requires : goal.shift-shift-requires
shift-shift-requires c =
    let f = c.args.file.now in
    let front = c.sheet_of.ensures.output_after in
    let number = c.word-count.ensures in record { in_bounds = front_twelve f c.requires.file_value _ (length_zeros 12) front; le_count = shift_asks f c.requires.file_value _ (length_zeros 12) front number }

pub slice_bounds-judged-count : goal.slice_bounds-judged-count
slice_bounds-judged-count c =
    let f = c.args.file.now in
    let front = c.sheet_of.ensures.output_after in
    let number = c.word-count.ensures in
    let more = c.shift-shift.ensures in
    shift_inside f c.requires.file_value _ (length_zeros 12) front number more.0 c.args.words.now c.requires.words_value

pub slice_bounds-judged-start : goal.slice_bounds-judged-start
slice_bounds-judged-start c =
    let f = c.args.file.now in
    let front = c.sheet_of.ensures.output_after in
    let number = c.word-count.ensures in
    let more = c.shift-shift.ensures in
    shift_inside f c.requires.file_value _ (length_zeros 12) front number more.0 c.args.words.now c.requires.words_value

pub judged-requires : goal.judged-requires
judged-requires c =
    let f = c.args.file.now in
    let front = c.sheet_of.ensures.output_after in
    let number = c.word-count.ensures in
    let more = c.shift-shift.ensures in
    let few = shift_asks f c.requires.file_value _ (length_zeros 12) front number in
    (plain_handed f c.requires.file_value _ (length_zeros 12) front number more.0 c.args.words.now c.requires.words_value, (few.0, (few.1.0, more.1)))

pub returns : goal.returns
returns c =
    let f = c.args.file.now in
    let front = c.sheet_of.ensures.output_after in
    let number = c.word-count.ensures in
    let more = c.shift-shift.ensures in
    verdict_is f c.requires.file_value _ (length_zeros 12) front number more.0 c.args.words.now c.requires.words_value c.judged.ensures
