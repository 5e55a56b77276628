use Prim.Native.Nat.{◌-◌}
use native.Mathlib.Omega.{arith}
use mathlib.Core.Path.{refl, sym, ◌∙◌}
use lib.ListN.{get_or}
use lib.Seq.{length-take-le}
use Rattle.list_laws.specs.LentParts.{begun_long, filled_long, joined, others_long}
use Rattle.draws.specs.AtLevel.{bounded, next_level, shifts_are}
use Rattle.draws.proofs.Joins.{coins_last, coins_more, not_last, to_next_level}
use Rattle.draws.proofs.+rest.Goals as goal

pub bounds-w-4 : goal.bounds-w-4
bounds-w-4 t c = omega (arith, c.requires.at_level.long)

pub overflow_cast-w : goal.overflow_cast-w
overflow_cast-w t c = omega (arith, (bounded c.requires.at_level).rounds)

pub bounds-w-3 : goal.bounds-w-3
bounds-w-3 t c = omega (arith, c.requires.at_level.long)

pub shift_points-requires : goal.shift_points-requires
shift_points-requires t c = let z = bounded c.requires.at_level in (z.points_most, (z.some, z.fold))

pub fill-requires : goal.fill-requires
fill-requires t c = omega (arith, c.shift_points.ensures, (bounded c.requires.at_level).shifts)

pub shape_of-out-then-level-w : goal.shape_of-out-then-level-w
shape_of-out-then-level-w t c = c.fill.auto.out

pub returns-then-level-w : goal.returns-then-level-w
returns-then-level-w t c =
    let a = c.args in
    coins_last c.requires.at_level a.generator.v c.if-level-w.true c.requires.out_len (c.shift_points.ensures ∙ shifts_are c.requires.at_level) c.fill.ensures

pub round_coins-n-requires : goal.round_coins-n-requires
round_coins-n-requires t c =
    let z = bounded c.requires.at_level in
    (c.requires.at_level.long, (omega (arith, c.requires.at_level.level, z.rounds), (z.outs, z.repetitions)))

pub slice_bounds-round-end : goal.slice_bounds-round-end
slice_bounds-round-end t c = ((
    let a = c.args in
    to_next_level c.requires.at_level (not_last a.level (get_or a.w.now 4 0) c.requires.at_level.level c.if-level-w.false) c.requires.out_len c.round_coins-n.ensures)).within

pub slice_bounds-round-end-2 : goal.slice_bounds-round-end-2
slice_bounds-round-end-2 t c =
    let n = c.round_coins-n.result in
    sym (length-take-le n c.args.out.now ((
    let a = c.args in
    to_next_level c.requires.at_level (not_last a.level (get_or a.w.now 4 0) c.requires.at_level.level c.if-level-w.false) c.requires.out_len c.round_coins-n.ensures)).within)

pub round-next-requires : goal.round-next-requires
round-next-requires t c =
    let n = c.round_coins-n in
    let o = (
    let a = c.args in
    to_next_level c.requires.at_level (not_last a.level (get_or a.w.now 4 0) c.requires.at_level.level c.if-level-w.false) c.requires.out_len c.round_coins-n.ensures) in record { at_level = (c.requires.at_level, o.more); out_len = length-take-le n.result c.args.out.now o.within ∙ n.ensures }

pub overflow_add-level : goal.overflow_add-level
overflow_add-level t c = omega (arith, c.requires.at_level.level, (bounded c.requires.at_level).rounds)

pub overflow_mul-scale : goal.overflow_mul-scale
overflow_mul-scale t c = omega (arith, (bounded c.requires.at_level).small)

pub offset_bounds-out-n : goal.offset_bounds-out-n
offset_bounds-out-n t c = let z = bounded c.requires.at_level in omega (arith, c.round_coins-n.ensures, z.outs, z.repetitions)

pub slice_bounds-rest-count : goal.slice_bounds-rest-count
slice_bounds-rest-count t c =
    let a = c.args in
    let o = (
    let a = c.args in
    to_next_level c.requires.at_level (not_last a.level (get_or a.w.now 4 0) c.requires.at_level.level c.if-level-w.false) c.requires.out_len c.round_coins-n.ensures) in
    let q = c.round-next in
    omega (arith, o.within, begun_long a.out.now q.new.out c.round_coins-n.result o.within q.auto.out)

pub slice_bounds-rest-start : goal.slice_bounds-rest-start
slice_bounds-rest-start t c =
    let a = c.args in
    let o = (
    let a = c.args in
    to_next_level c.requires.at_level (not_last a.level (get_or a.w.now 4 0) c.requires.at_level.level c.if-level-w.false) c.requires.out_len c.round_coins-n.ensures) in
    let q = c.round-next in
    omega (arith, o.within, begun_long a.out.now q.new.out c.round_coins-n.result o.within q.auto.out)

pub rest-requires : goal.rest-requires
rest-requires t c =
    let a = c.args in
    let o = (
    let a = c.args in
    to_next_level c.requires.at_level (not_last a.level (get_or a.w.now 4 0) c.requires.at_level.level c.if-level-w.false) c.requires.out_len c.round_coins-n.ensures) in
    let q = c.round-next in (
      omega (arith, c.decreases, o.more, (bounded c.requires.at_level).rounds),
      (
        next_level c.requires.at_level o.more,
        others_long a.out.now q.new.out c.round_coins-n.result o.within q.auto.out ∙ o.left,
      ),
    )

pub shape_of-out : goal.shape_of-out
shape_of-out t c =
    let a = c.args in
    let o = (
    let a = c.args in
    to_next_level c.requires.at_level (not_last a.level (get_or a.w.now 4 0) c.requires.at_level.level c.if-level-w.false) c.requires.out_len c.round_coins-n.ensures) in
    let q = c.round-next in
    let v = c.rest in
    filled_long a.out.now q.new.out c.round_coins-n.result o.within q.auto.out v.new.out v.auto.out

pub returns : goal.returns
returns t c =
    let a = c.args in
    let o = (
    let a = c.args in
    to_next_level c.requires.at_level (not_last a.level (get_or a.w.now 4 0) c.requires.at_level.level c.if-level-w.false) c.requires.out_len c.round_coins-n.ensures) in
    let q = c.round-next in
    let v = c.rest in
    coins_more c.requires.at_level a.generator.v o.more
    (joined a.out.now q.new.out c.round_coins-n.result o.within q.auto.out v.new.out refl refl)
    q.ensures v.ensures
