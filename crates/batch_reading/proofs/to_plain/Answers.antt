use Prim.Native.Nat.{◌-◌, ◌≤◌}
use native.Mathlib.Omega.{arith}
use mathlib.Core.Path.{sym, ◌∙◌}
use lib.ListN.{length}
use lib.Seq.{length-take-le}
use Rattle.list_laws.specs.LentParts.{front_stays, front_there}
use Rattle.list_laws.specs.Lists.{part_length_lem}
use Rattle.list_laws.specs.Zeros.{length_zeros, zeros}
use Rattle.batch_reading.proofs.PlainLaws.{fold_number_lem, fold_there, laid, still_enough}
use Rattle.batch_reading.proofs.Values.{size_small}
use Rattle.batch_reading.proofs.to_plain.Goals as goal

-- `batch_reading::to_plain` meets its contract. Assumes nothing.
pub overflow_sub-n : goal.overflow_sub-n
overflow_sub-n c = omega (arith, c.requires.shift_value, fold_number_lem c.args.words.now c.requires.ruled)

pub slice_bounds-front-end : goal.slice_bounds-front-end
slice_bounds-front-end c = omega (arith, c.requires.shift_value, fold_number_lem c.args.words.now c.requires.ruled, (size_small c.args.words.now c.requires.ruled).1)

pub slice_bounds-plain_front-end : goal.slice_bounds-plain_front-end
slice_bounds-plain_front-end c = sym (length-take-le (c.args.at - c.args.shift) (zeros 4108) (omega (arith, length_zeros 4108, c.requires.shift_value, fold_number_lem c.args.words.now c.requires.ruled, (size_small c.args.words.now c.requires.ruled).1)))

pub plain_front-requires : goal.plain_front-requires
plain_front-requires c =
    let f = fold_number_lem c.args.words.now c.requires.ruled in
    let z = (size_small c.args.words.now c.requires.ruled).1 in
    let n = length-take-le (c.args.at - c.args.shift) (zeros 4108) (omega (arith, length_zeros 4108, c.requires.shift_value, f, z)) in record { ruled = c.requires.ruled; out_len = omega (arith, n, c.requires.shift_value, f) }

pub slice_bounds-front-end-2 : goal.slice_bounds-front-end-2
slice_bounds-front-end-2 c =
    let n : c.args.at - c.args.shift ≤ length (zeros 4108) = omega (arith, length_zeros 4108, c.requires.shift_value, fold_number_lem c.args.words.now c.requires.ruled, (size_small c.args.words.now c.requires.ruled).1) in
    still_enough (zeros 4108) c.plain_front.new.out (c.args.at - c.args.shift) n c.plain_front.auto.out

pub slice_bounds-copy-end : goal.slice_bounds-copy-end
slice_bounds-copy-end c =
    let n : c.args.at - c.args.shift ≤ length (zeros 4108) = omega (arith, length_zeros 4108, c.requires.shift_value, fold_number_lem c.args.words.now c.requires.ruled, (size_small c.args.words.now c.requires.ruled).1) in
    sym (front_there (zeros 4108) c.plain_front.new.out (c.args.at - c.args.shift) n c.plain_front.auto.out)

pub offset_bounds-words-shift : goal.offset_bounds-words-shift
offset_bounds-words-shift c = omega (arith, c.requires.shift_value, fold_number_lem c.args.words.now c.requires.ruled, fold_there c.args.words.now c.requires.ruled)

pub slice_bounds-copy-count : goal.slice_bounds-copy-count
slice_bounds-copy-count c = omega (arith, c.requires.shift_value, fold_number_lem c.args.words.now c.requires.ruled)

pub slice_bounds-copy-start : goal.slice_bounds-copy-start
slice_bounds-copy-start c = omega (arith, c.requires.shift_value, fold_number_lem c.args.words.now c.requires.ruled)

pub slice_bounds-copy-end-2 : goal.slice_bounds-copy-end-2
slice_bounds-copy-end-2 c = omega (arith, c.requires.shift_value, fold_there c.args.words.now c.requires.ruled)

pub copy-requires : goal.copy-requires
copy-requires c =
    let f = fold_number_lem c.args.words.now c.requires.ruled in
    let n : c.args.at - c.args.shift ≤ length (zeros 4108) = omega (arith, length_zeros 4108, c.requires.shift_value, f, (size_small c.args.words.now c.requires.ruled).1) in
    part_length_lem c.args.shift (c.args.at - c.args.shift) c.args.words.now (omega (arith, c.requires.shift_value, f, fold_there c.args.words.now c.requires.ruled))
    ∙ sym (front_there (zeros 4108) c.plain_front.new.out (c.args.at - c.args.shift) n c.plain_front.auto.out)

pub returns : goal.returns
returns c =
    let n : c.args.at - c.args.shift ≤ length (zeros 4108) = omega (arith, length_zeros 4108, c.requires.shift_value, fold_number_lem c.args.words.now c.requires.ruled, (size_small c.args.words.now c.requires.ruled).1) in
    laid c.args.words.now c.requires.ruled c.requires.shift_value.0 c.requires.shift_value.1 (c.copy.ensures ∙ front_stays (zeros 4108) c.plain_front.new.out (c.args.at - c.args.shift) n c.plain_front.auto.out ∙ c.plain_front.ensures)
