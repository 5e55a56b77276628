use Prim.Native.Nat.{◌≤◌}
use native.Mathlib.Omega.{arith}
use mathlib.Core.Path.{refl, sym, ◌∙◌}
use lib.ListN.{length, get_or}
use lib.Seq.{length-take-le}
use Rattle.definition.specs.Sheet.{edition1, sheet_of}
use Rattle.list_laws.specs.LentParts.{joined, others_long}
use Rattle.draws.specs.AtLevel.{bounded, next_level, shifts_are}
use Rattle.draws.proofs.Joins.{round_coins_lem}
use Rattle.draws.proofs.round.Goals as goal

pub overflow_mul-twice : goal.overflow_mul-twice
overflow_mul-twice c = omega (arith, (bounded c.requires.at_level.0).small)

pub shift_points-limit-requires : goal.shift_points-limit-requires
shift_points-limit-requires c = let z = bounded c.requires.at_level.0 in (z.points_most, (omega (arith, z.some), z.fold))

pub overflow_add-level : goal.overflow_add-level
overflow_add-level c = omega (arith, (bounded c.requires.at_level.0).rounds, c.requires.at_level.1)

pub slice_bounds-out_coins-end-2 : goal.slice_bounds-out_coins-end-2
slice_bounds-out_coins-end-2 c =
    sym (length-take-le (get_or c.args.w.now 5 0) c.args.out.now (omega (arith, c.requires.out_len)))

pub out_coins-next-requires : goal.out_coins-next-requires
out_coins-next-requires c = (next_level c.requires.at_level.0 c.requires.at_level.1, omega arith)

pub later_coins-requires : goal.later_coins-requires
later_coins-requires c =
    let a = c.args in
    let o = c.out_coins-next in
    let n : get_or a.w.now 5 0 ≤ length a.out.now = omega (arith, c.requires.out_len) in (
      omega (arith, c.shift_points-limit.ensures, (bounded c.requires.at_level.0).shifts),
      omega (arith, others_long a.out.now o.new.out (get_or a.w.now 5 0) n o.auto.out, c.requires.out_len),
    )

pub returns : goal.returns
unfolding sheet_of
returns c =
    let a = c.args in
    let o = c.out_coins-next in
    let g = c.later_coins in
    let n : get_or a.w.now 5 0 ≤ length a.out.now = omega (arith, c.requires.out_len) in
    round_coins_lem c.requires.at_level.0 a.generator.v
    (joined a.out.now o.new.out (get_or a.w.now 5 0) n o.auto.out g.new.out refl refl)
    c.requires.out_len (length-take-le (get_or a.w.now 5 0) a.out.now n)
    (others_long a.out.now o.new.out (get_or a.w.now 5 0) n o.auto.out) (c.shift_points-limit.ensures ∙ shifts_are c.requires.at_level.0)
    o.ensures (λ q. g.ensures (sheet_of edition1 a.w.now) q refl)
