use native.Mathlib.Omega.{arith}
use mathlib.Core.Path.{sym}
use lib.ListN.{length, get_or}
use Rattle.spelling.specs.ByField.{elements_at}
use Rattle.honest_words.specs.Sizes.{numbers, sizes}
use Rattle.honest_words.proofs.Words.{early}
use Rattle.honest_round.proofs.Rounds.{cut, outs_long, outs_size, points_are, points_few, shifts_in, shifts_long}
use Rattle.honest_round.proofs.Round.sample_points.Goals as goal

-- `honest_round::sample_points` meets its contract. The points of G by the table of points. Assumes nothing.
pub overflow_add-t : goal.overflow_add-t
overflow_add-t c = omega (arith, early {P = Unit {0}} (c.requires.invariant, tt))

pub offset_bounds-self-self : goal.offset_bounds-self-self
offset_bounds-self-self c = omega (arith, early {P = Unit {0}} (c.requires.invariant, tt))

pub bounds-self-self : goal.bounds-self-self
bounds-self-self c = omega (arith, early {P = Unit {0}} (c.requires.invariant, tt))

pub overflow_mul-a : goal.overflow_mul-a
overflow_mul-a c =
    let d = c.width-width in
    let k = cut c.requires.invariant.0 c.requires.round_coins_fit.0 d.result d.ensures in
    omega (arith, k.few)

pub overflow_mul-first : goal.overflow_mul-first
overflow_mul-first c =
    let d = c.width-width in
    let k = cut c.requires.invariant.0 c.requires.round_coins_fit.0 d.result d.ensures in
    omega (arith, k.more, k.few, k.narrow)

pub slice_bounds-points-end : goal.slice_bounds-points-end
slice_bounds-points-end c =
    let d = c.width-width in
    sym (outs_long c.requires.invariant.0 c.requires.round_coins_fit.0 d.result d.ensures)

pub overflow_add-first-2 : goal.overflow_add-first-2
overflow_add-first-2 c =
    let d = c.width-width in
    let k = cut c.requires.invariant.0 c.requires.round_coins_fit.0 d.result d.ensures in
    omega (arith, k.there)

pub slice_bounds-points-end-2 : goal.slice_bounds-points-end-2
slice_bounds-points-end-2 c =
    let d = c.width-width in
    let k = cut c.requires.invariant.0 c.requires.round_coins_fit.0 d.result d.ensures in
    omega (arith, k.there)

pub points-requires : goal.points-requires
points-requires c =
    let d = c.width-width in
    let k = c.folding_number-k.ensures in
    let v = numbers c.requires.invariant.0.place in record { k_nonzero = (omega (arith, k, v.least_fold), (omega (arith, k, v.most_fold), (sizes c.requires.invariant.0).points_most)); in_table = (shifts_in c.requires.invariant.0 c.requires.round_coins_fit.0 d.result d.ensures, omega (arith, outs_size c.requires.invariant.0 c.requires.round_coins_fit.0 d.result d.ensures, shifts_long c.requires.invariant.0 c.requires.round_coins_fit.0 d.result d.ensures, v.outs, v.repetitions, v.most_outs, v.most_repetitions, c.requires.round_coins_fit.1)) }

pub returns : goal.returns
returns c =
    let a = c.args in
    let d = c.width-width in
    let k = c.folding_number-k in
    let q = c.points in record { points = points_are c.requires.invariant.0 c.requires.round_coins_fit.0 d.result d.ensures k.result k.ensures q.new.xs q.result q.ensures.xs_after; upper_bound = (q.ensures.upper_bound.0, points_few c.requires.invariant.0 c.requires.round_coins_fit.0 d.result d.ensures (length (elements_at (get_or a.self.now.w.now 0 0) a.xs.now)) q.result c.requires.invariant.1 q.ensures.upper_bound.1) }
