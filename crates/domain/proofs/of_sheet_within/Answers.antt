use native.Mathlib.Omega.{arith}
use mathlib.Core.Path.{refl, sym}
use lib.ListN.{get_or}
use lib.Seq.{length-take-le}
use Rattle.domain.proofs.OfSheet.{points_there}
use Rattle.domain.proofs.of_sheet_within.Goals as goal

pub overflow_cast-size : goal.overflow_cast-size
overflow_cast-size c = omega (arith, c.requires.in_bounds.1.most)

pub slice_bounds-points-end : goal.slice_bounds-points-end
slice_bounds-points-end c = c.requires.w_in_bounds

pub slice_bounds-points-end-2 : goal.slice_bounds-points-end-2
slice_bounds-points-end-2 c =
    let w = c.args.w.now in
    sym (length-take-le (get_or w 1 0) c.args.pw.now c.requires.w_in_bounds)

pub points-requires : goal.points-requires
points-requires c =
    let w = c.args.w.now in record { fitting = c.requires.in_bounds.1; out_len = length-take-le (get_or w 1 0) c.args.pw.now c.requires.w_in_bounds }

pub returns : goal.returns
returns c =
    let w = c.args.w.now in
    let p = c.points in
    let fit = c.requires.in_bounds.1 in record { value = (refl, fit.most); powers = points_there w p.new.out c.args.pw.now p.auto.out c.requires.w_in_bounds p.ensures.powers }
