use Prim.Native.Nat.{ℕ, ◌+◌, ◌≤◌}
use native.Mathlib.Omega.{arith}
use mathlib.Core.Path.{refl, sym, ap, ◌∙◌}
use mathlib.Core.List.{◌∷◌, ◌++◌}
use lib.ListN.{length, drop}
use lib.Seq.{length-take-le}
use Rattle.spelling.specs.ByField.{elements_at, field_at}
use Rattle.closest.specs.Report.{unlike_at}
use Rattle.closest.proofs.Listing.{differing_most}
use Rattle.closest.proofs.Reporting.{begun_length, front_is, report_is, report_length, rest_room}
use Rattle.closest.proofs.report.Goals as goal

pub slice_bounds-copy-end-2 : goal.slice_bounds-copy-end-2
slice_bounds-copy-end-2 c = sym (length-take-le (length c.args.f.now) c.args.output.now (omega (arith, c.requires.count_value.1)))

pub copy-requires : goal.copy-requires
copy-requires c = length-take-le (length c.args.f.now) c.args.output.now (omega (arith, c.requires.count_value.1))

pub overflow_cast-output : goal.overflow_cast-output
overflow_cast-output c =
    let a = c.args in
    omega (arith, c.requires.count_value.0, c.requires.values_len, differing_most (field_at a.field) (elements_at a.field a.values.now) (elements_at a.field a.table.now))

pub slice_bounds-numbers-count : goal.slice_bounds-numbers-count
slice_bounds-numbers-count c =
    let a = c.args in
    let ds = unlike_at a.field a.values.now a.table.now in
    let room : length a.f.now + 1 + length ds ≤ length a.output.now = omega (arith, c.requires.count_value) in
    omega (arith, begun_length a.f.now ds a.output.now a.count room c.copy.ensures, room)

pub slice_bounds-numbers-start : goal.slice_bounds-numbers-start
slice_bounds-numbers-start c =
    let a = c.args in
    let ds = unlike_at a.field a.values.now a.table.now in
    let room : length a.f.now + 1 + length ds ≤ length a.output.now = omega (arith, c.requires.count_value) in
    omega (arith, begun_length a.f.now ds a.output.now a.count room c.copy.ensures, room)

pub numbers-requires : goal.numbers-requires
numbers-requires c =
    let a = c.args in
    let ds = unlike_at a.field a.values.now a.table.now in
    let room : length a.f.now + 1 + length ds ≤ length a.output.now = omega (arith, c.requires.count_value) in record { xs_len = (c.requires.values_len.0, c.requires.values_len.1.0); ys_in_bounds = rest_room a.f.now ds a.output.now a.count room _ (front_is a.f.now ds a.output.now a.count room c.copy.ensures) }

pub shape_of-output : goal.shape_of-output
shape_of-output c =
    let a = c.args in
    let ds = unlike_at a.field a.values.now a.table.now in
    let room : length a.f.now + 1 + length ds ≤ length a.output.now = omega (arith, c.requires.count_value) in
    report_length a.f.now ds a.output.now a.count room _ _ (front_is a.f.now ds a.output.now a.count room c.copy.ensures) c.numbers.ensures

pub returns : goal.returns
returns c =
    let a = c.args in
    let ds = unlike_at a.field a.values.now a.table.now in
    let room : length a.f.now + 1 + length ds ≤ length a.output.now = omega (arith, c.requires.count_value) in record {
      value = refl;
      output_after = report_is a.f.now ds a.output.now a.count room _ _ (front_is a.f.now ds a.output.now a.count room c.copy.ensures) c.numbers.ensures
          ∙ ap (λ (m : ℕ). (a.f.now ++ a.count ∷ ds) ++ drop (length a.f.now + 1 + m) a.output.now) (sym c.requires.count_value.0);
    }
