use Prim.Native.Nat.{◌≤◌}
use native.Mathlib.Omega.{arith}
use mathlib.Core.Path.{◌∙◌, refl, sym}
use lib.ListN.{length}
use lib.Seq.{length-take-le}
use Rattle.definition.specs.Field.{spelling_of}
use Rattle.spelling.specs.ByField.{elements_at, field_at, laws_at, points_at}
use Rattle.spelling.specs.Words.{elements_even, elements_inside}
use Rattle.elements.specs.Meaning.{value_at}
use Rattle.fractions.specs.Points.{fits_points}
use Rattle.rounds.specs.RoundLaws.{signs_at}
use Rattle.rounds.proofs.Shifts.{fits_as}
use Rattle.comparison.proofs.Comparing.{comparison_is, power_table}
use Rattle.comparison.proofs.first_difference.Goals as goal

-- `comparison::first_difference` meets its contract. Assumes nothing.
pub prepare-requires : goal.prepare-requires
prepare-requires c = let p = c.requires in record { ac_len = p.ac_len; fits = p.fits; below = p.below; k_in_bounds = p.k_in_bounds }

pub words-words-requires : goal.words-words-requires
words-words-requires c = omega (arith, c.requires.fits.few)

pub slice_bounds-compare_by_roots-end : goal.slice_bounds-compare_by_roots-end
slice_bounds-compare_by_roots-end c =
    let a = c.args in
    let p = c.prepare in
    let n = c.words-words in
    let inside : n.result ≤ length p.new.bottoms = omega (arith, p.auto.bottoms, n.ensures.0, elements_inside (spelling_of a.field) a.k a.bottoms.now c.requires.k_in_bounds_2) in
    omega (arith, inside)

pub slice_bounds-compare_by_roots-end-2 : goal.slice_bounds-compare_by_roots-end-2
slice_bounds-compare_by_roots-end-2 c =
    let a = c.args in
    let p = c.prepare in
    let n = c.words-words in
    let inside : n.result ≤ length p.new.bottoms = omega (arith, p.auto.bottoms, n.ensures.0, elements_inside (spelling_of a.field) a.k a.bottoms.now c.requires.k_in_bounds_2) in
    sym (length-take-le n.result p.new.bottoms inside)

pub compare_by_roots-requires : goal.compare_by_roots-requires
compare_by_roots-requires c =
    let a = c.args in
    let p = c.prepare in
    let n = c.words-words in
    let inside : n.result ≤ length p.new.bottoms = omega (arith, p.auto.bottoms, n.ensures.0, elements_inside (spelling_of a.field) a.k a.bottoms.now c.requires.k_in_bounds_2) in
    let q = c.requires in record { k_in_bounds = omega (arith, elements_even (spelling_of a.field) p.new.tops a.tops.now p.auto.tops, q.k_in_bounds.0); fits = fits_as refl q.fits; below = (q.below, length-take-le n.result p.new.bottoms inside ∙ n.ensures.0); power_table = power_table a.field a.pw.now q.ac_len.1.1.powers }

pub shape_of-tops : goal.shape_of-tops
shape_of-tops c = c.prepare.auto.tops

pub returns : goal.returns
returns c =
    let a = c.args in
    let s = c.requires in
    let p = c.prepare in
    let E = elements_at a.field in
    comparison_is (field_at a.field) (laws_at a.field) (signs_at a.field) (points_at a.field a.pw.now) (E a.table.now) (E a.ac.now) (E a.vg.now) a.oracle a.k (value_at a.field a.r) a.finals.now (E p.new.tops) (fits_points a.field a.pw.now s.fits) p.ensures
    (E a.coefficients.now) s.below c.compare_by_roots.ensures
