use Prim.Native.Nat.{◌≤◌}
use native.Mathlib.Omega.{arith}
use mathlib.Core.Path.{refl, sym, ◌∙◌}
use lib.ListN.{length}
use lib.Seq.{length-take-le}
use Rattle.definition.specs.Field.{spelling_of}
use Rattle.spelling.specs.ByField.{elements_at, field_at, laws_at, points_at}
use Rattle.spelling.specs.Words.{elements_even, elements_inside}
use Rattle.elements.specs.Meaning.{value_at}
use Rattle.fractions.specs.Points.{fits_points}
use Rattle.samples.specs.Samples.{kept}
use Rattle.rounds.specs.RoundLaws.{signs_at}
use Rattle.rounds.proofs.Shifts.{answer_is, fits_as}
use Rattle.rounds.proofs.gather_samples.Goals as goal

-- `rounds::gather_samples` meets its contract. Assumes nothing.
pub prepare-requires : goal.prepare-requires
prepare-requires c = let p = c.requires in record { ac_len = p.ac_len; fits = p.fits; below = p.below; k_in_bounds = p.k_in_bounds }

pub words-words-requires : goal.words-words-requires
words-words-requires c = omega (arith, c.requires.fits.few)

pub slice_bounds-gather_by_roots-end : goal.slice_bounds-gather_by_roots-end
slice_bounds-gather_by_roots-end c =
    let a = c.args in
    let p = c.prepare in
    let n = c.words-words in
    let inside : n.result ≤ length p.new.bottoms = omega (arith, p.auto.bottoms, n.ensures.0, elements_inside (spelling_of a.field) a.k a.bottoms.now c.requires.k_in_bounds_2) in
    omega (arith, inside)

pub slice_bounds-gather_by_roots-end-2 : goal.slice_bounds-gather_by_roots-end-2
slice_bounds-gather_by_roots-end-2 c =
    let a = c.args in
    let p = c.prepare in
    let n = c.words-words in
    let inside : n.result ≤ length p.new.bottoms = omega (arith, p.auto.bottoms, n.ensures.0, elements_inside (spelling_of a.field) a.k a.bottoms.now c.requires.k_in_bounds_2) in
    sym (length-take-le n.result p.new.bottoms inside)

pub gather_by_roots-requires : goal.gather_by_roots-requires
gather_by_roots-requires c =
    let a = c.args in
    let p = c.prepare in
    let n = c.words-words in
    let inside : n.result ≤ length p.new.bottoms = omega (arith, p.auto.bottoms, n.ensures.0, elements_inside (spelling_of a.field) a.k a.bottoms.now c.requires.k_in_bounds_2) in
    let q = c.requires in record { k_in_bounds = omega (arith, elements_even (spelling_of a.field) p.new.tops a.tops.now p.auto.tops, q.k_in_bounds.0); fits = fits_as refl q.fits; below = (q.below, length-take-le n.result p.new.bottoms inside ∙ n.ensures.0); py_len = q.py_len }

pub shape_of-tops : goal.shape_of-tops
shape_of-tops c = c.prepare.auto.tops

pub shape_of-px : goal.shape_of-px
shape_of-px c = c.gather_by_roots.auto.px

pub shape_of-py : goal.shape_of-py
shape_of-py c = c.gather_by_roots.auto.py

pub returns : goal.returns
returns c =
    let a = c.args in
    let s = c.requires in
    let p = c.prepare in
    let g = c.gather_by_roots in
    let E = elements_at a.field in record {
      answered = answer_is (field_at a.field) (points_at a.field a.pw.now) (E a.table.now) (E a.ac.now) (E a.vg.now) a.oracle a.k (value_at a.field a.r) a.shifts.now (E p.new.tops) (fits_points a.field a.pw.now s.fits) p.ensures
          (laws_at a.field) (signs_at a.field) (E a.outs.now) (E a.replies.now) {v = kept g.result (E g.new.px) (E g.new.py)} s.below g.ensures.py_after;
      room = g.ensures.room;
    }
