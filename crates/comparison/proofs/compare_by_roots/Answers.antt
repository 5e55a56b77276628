use Prim.Native.Nat.{◌≤◌}
use mathlib.Core.Path.{◌∙◌, refl, sym, ap}
use mathlib.Core.Bool.{not}
use native.Mathlib.Omega.{arith}
use lib.ListN.{length}
use Rattle.definition.specs.Field.{spelling_of}
use Rattle.spelling.specs.ByField.{elements_at, field_at, points_at}
use Rattle.spelling.specs.Words.{elements_many}
use Rattle.elements.specs.Meaning.{value_at}
use Rattle.outcome.specs.Meaning.{place_of}
use Rattle.fractions.specs.Values.{below_at, first_point, folded}
use Rattle.root_values.specs.Places.{places_for}
use Rattle.rounds.proofs.Shifts.{fits_as}
use Rattle.comparison.proofs.Comparing.{tested, first_here, first_later, first_nowhere}
use Rattle.comparison.proofs.compare_by_roots.Invariants.{differs_at}
use Rattle.comparison.proofs.compare_by_roots.Goals as goal

pub loop-i-init : goal.loop-i-init
loop-i-init c = refl

pub fold_at-y-requires : goal.fold_at-y-requires
fold_at-y-requires c =
    let l = c.loop-i in
    let p = c.requires in
    let a = c.args in
    let below = c.loop-i-test.true in
    let size = elements_many (spelling_of a.field) a.k l.values (l.auto.values ∙ p.below.1) in record { values_in_bounds = places_for l.i (length a.finals.now) a.k _ below size p.k_in_bounds; fits = fits_as size p.fits; j_lt_step = below_at a.finals.now p.below.0 l.i below c.wide-j.ensures }

pub final_value-value-requires : goal.final_value-value-requires
final_value-value-requires c =
    let l = c.loop-i in
    let a = c.args in
    let p = c.requires in
    let fits = p.fits in record { j_in_bounds = (first_point fits (below_at a.finals.now p.below.0 l.i c.loop-i-test.true c.wide-j.ensures), (fits.small, (omega (arith, folded fits), fits.few))); power_table = p.power_table }

pub returns-then-not-same : goal.returns-then-not-same
unfolding place_of
returns-then-not-same c =
    let a = c.args in
    let l = c.loop-i in
    let y = c.fold_at-y in
    let E = elements_at a.field in
    let h = c.loop-i-test.true in
    let size = elements_many (spelling_of a.field) a.k l.values (l.auto.values ∙ c.requires.below.1) in
    let d = sym (tested (field_at a.field) (points_at a.field a.pw.now) (E a.roots.now) a.oracle a.k (value_at a.field a.r) l.i (E a.coefficients.now) c.final_value-value.ensures y.ensures refl size c.wide-j.ensures) ∙ ap not (sym c.same.ensures) ∙ (ap not c.if-not-same.true) in
    first_here (differs_at a.field a.pw.now a.roots.now a.oracle a.k a.r a.coefficients.now) a.finals.now l.i h d ∙ l.invariant

pub loop-i-preserved : goal.loop-i-preserved
loop-i-preserved c =
    let a = c.args in
    let l = c.loop-i in
    let y = c.fold_at-y in
    let E = elements_at a.field in
    let h = c.loop-i-test.true in
    let size = elements_many (spelling_of a.field) a.k l.values (l.auto.values ∙ c.requires.below.1) in
    let d = sym (tested (field_at a.field) (points_at a.field a.pw.now) (E a.roots.now) a.oracle a.k (value_at a.field a.r) l.i (E a.coefficients.now) c.final_value-value.ensures y.ensures refl size c.wide-j.ensures) ∙ ap not (sym c.same.ensures) ∙ (ap not c.if-not-same.false) in
    first_later (differs_at a.field a.pw.now a.roots.now a.oracle a.k a.r a.coefficients.now) a.finals.now l.i h d ∙ l.invariant

pub returns : goal.returns
unfolding place_of
returns c =
    let l = c.loop-i in
    let a = c.args in
    let h : length a.finals.now ≤ l.i = omega (arith, c.loop-i-test.false) in
    first_nowhere (differs_at a.field a.pw.now a.roots.now a.oracle a.k a.r a.coefficients.now) a.finals.now l.i h ∙ l.invariant
