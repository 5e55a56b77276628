use native.Mathlib.Omega.{arith}
use Rattle.list_laws.specs.Zeros.{length_zeros}
use Rattle.completeness.proofs.Allowed.{allowed_enough}
use Rattle.layouts.specs.SheetRules.{long_enough}
use Rattle.domain.specs.OfSheet.{fitting, points_of_sheet}
use Rattle.edition.specs.Meaning.{edition_of}
use Rattle.honest.proofs.stream_with.Goals as goal

pub of_sheet_within-size-requires : goal.of_sheet_within-size-requires
of_sheet_within-size-requires g c =
    let a = c.args in
    let ok = c.requires.allowed in record { in_bounds = (long_enough (edition_of a.e) a.w.now (allowed_enough ok), fitting (edition_of a.e) a.w.now (allowed_enough ok) ok.sheet); w_in_bounds = omega (arith, c.requires.places, length_zeros g.row.POINTS) }

pub stream_by-requires : goal.stream_by-requires
stream_by-requires g c =
    let ok = c.requires.allowed in
    let a = c.args in
    let d = c.of_sheet_within-size in record { allowed = (ok, omega (arith, c.requires.fold, length_zeros g.row.FOLD)); powers = (points_of_sheet (edition_of a.e) a.w.now _ d.ensures.powers.0, d.ensures.powers.1); out_len = c.requires.out_len }
