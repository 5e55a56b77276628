use native.Mathlib.Omega.{arith}
use mathlib.Core.List.{[], map}
use mathlib.Core.Path.{◌∙◌, sym, ap}
use Rattle.definition.specs.Field.{spelling_of}
use Rattle.spelling.specs.ByField.{field_at, elements_at, laws_at}
use Rattle.spelling.specs.Words.{elements_even}
use Rattle.distinct.specs.Points.{keep_points, keep_append, kept_different, shift_at}
use Rattle.distinct.proofs.points.Goals as goal

pub keep_all-requires : goal.keep_all-requires
keep_all-requires c =
    let a = c.args in
    let k = c.keep_shifts-at in
    (omega (arith, k.ensures.upper_bound, elements_even (spelling_of a.field) k.new.xs a.xs.now k.auto.xs), omega (arith, k.ensures.upper_bound, c.requires.in_table.1))

pub returns : goal.returns
returns c =
    let a = c.args in
    let k = c.keep_shifts-at in
    let q = c.keep_all in
    let same = (field_at a.field).equal in
    let whole = keep_append same (elements_at a.field a.outs.now) (map (shift_at a.field a.pw.now a.scale a.k) a.shifts.now) [] in record { xs_after = q.ensures.xs_after ∙ ap (keep_points same (elements_at a.field a.outs.now)) k.ensures.xs_after ∙ sym whole ∙ kept_different same (laws_at a.field).equal_true _; upper_bound = (omega (arith, q.ensures.upper_bound, k.ensures.upper_bound), omega (arith, q.ensures.upper_bound, k.ensures.upper_bound)) }
