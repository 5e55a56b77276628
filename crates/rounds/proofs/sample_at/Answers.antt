use native.Mathlib.Omega.{arith}
use mathlib.Core.Path.{◌∙◌, ap}
use lib.ListN.{length}
use Rattle.definition.specs.Field.{number_in, spelling_of}
use Rattle.spelling.specs.ByField.{elements_at, field_at, points_at}
use Rattle.spelling.specs.Words.{elements_many}
use Rattle.elements.specs.Meaning.{value_at}
use Rattle.fractions.specs.Values.{first_point, folded, below_at}
use Rattle.root_values.specs.Places.{places_for}
use Rattle.rounds.specs.Points.{shift_number}
use Rattle.rounds.proofs.Shifts.{fits_as, sampled}
use Rattle.rounds.proofs.sample_at.Goals as goal

pub shift_point-x-requires : goal.shift_point-x-requires
shift_point-x-requires c =
    let a = c.args in
    let p = c.requires in
    let fits = p.fits in
    (first_point fits (below_at a.shifts.now p.below.0 a.i p.i_in_bounds c.wide-j.ensures), (fits.small, (omega (arith, folded fits), fits.few)))

pub fold_at-y-requires : goal.fold_at-y-requires
fold_at-y-requires c =
    let a = c.args in
    let p = c.requires in
    let n = elements_many (spelling_of a.field) a.k a.values.now p.below.1 in record { values_in_bounds = places_for a.i (length a.shifts.now) a.k _ p.i_in_bounds n p.k_in_bounds; fits = fits_as n p.fits; j_lt_step = below_at a.shifts.now p.below.0 a.i p.i_in_bounds c.wide-j.ensures }

pub returns : goal.returns
returns c =
    let a = c.args in
    let n = elements_many (spelling_of a.field) a.k a.values.now c.requires.below.1 in
    let j = c.wide-j in
    sampled (field_at a.field) (points_at a.field a.pw.now) (elements_at a.field a.roots.now) a.oracle a.k (value_at a.field a.r) a.i j.ensures n
    (c.number.ensures.by_index a.field ∙ ap (number_in (spelling_of a.field)) c.shift_point-x.ensures.value ∙ shift_number a.field a.pw.now a.oracle.scale a.k j.result) c.fold_at-y.ensures
