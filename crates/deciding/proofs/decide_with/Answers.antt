use native.Mathlib.Omega.{arith}
use mathlib.Core.Path.{◌∙◌}
use Rattle.list_laws.specs.Zeros.{length_zeros}
use Rattle.edition.specs.Meaning.{edition_of}
use Rattle.domain.specs.OfSheet.{points_of_sheet}
use Rattle.deciding.proofs.Ready.{sheet_fitting}
use Rattle.deciding.proofs.decide_with.Goals as goal

pub of_sheet_within-size-requires : goal.of_sheet_within-size-requires
of_sheet_within-size-requires g c =
    let p = c.requires in
    let a = c.args in record { in_bounds = sheet_fitting (edition_of a.e) a.w.now p.w_value.0 p.w_in_bounds; w_in_bounds = omega (arith, length_zeros g.row.POINTS, p.points.0) }

pub test_outs_then_decide-requires : goal.test_outs_then_decide-requires
test_outs_then_decide-requires g c =
    let p = c.requires in
    let a = c.args in
    let q = c.of_sheet_within-size in
    let samples = length_zeros g.row.SAMPLES ∙ p.samples.0 in
    record { w_value = p.w_value; w_in_bounds = p.w_in_bounds; powers = (points_of_sheet (edition_of a.e) a.w.now _ q.ensures.powers.0, q.ensures.powers.1); px_len = (samples, (samples, (length_zeros g.row.PLACES ∙ p.places.0, length_zeros g.row.DOUBLE ∙ p.double.0))) }
