use Prim.Native.Nat.{◌/◌}
use native.Mathlib.Omega.{arith}
use mathlib.Core.Path.{sym, ap, ◌∙◌}
use lib.ListN.{length}
use lib.Seq.{length_front, length-take-le}
use Rattle.list_laws.specs.Zeros.{zeros, length_zeros}
use Rattle.definition.specs.Field.{field_of, spelling_of}
use Rattle.algebra.specs.PrimeField.{laws}
use Rattle.spelling.specs.ByField.{elements_at}
use Rattle.spelling.specs.Words.{elements_even}
use Rattle.fractions.specs.Points.{powers_as_words}
use Rattle.fractions.specs.Values.{first_point, fits_for, folded, spacing, table_place}
use Rattle.fractions.proofs.RootValues.{count_few, count_some, fractions_at, front_whole, rooted_part}
use Rattle.fractions.proofs.fractions.Goals as goal

pub shift_powers-requires : goal.shift_powers-requires
shift_powers-requires c =
    let p = c.requires in
    let n = c.count-k in
    let fits = fits_for n.ensures p.fits in
    let size = length-take-le (c.args.oracle.words / n.result) (zeros 33) (omega (arith, length_zeros 33, count_few fits)) in
    (first_point fits p.j_lt_step.0, (fits.small, (fits.few, omega (arith, size, count_some fits p.j_lt_step.1.0))))

pub quotients-requires-clause-rooted : goal.quotients-requires-clause-rooted
quotients-requires-clause-rooted c =
    let a = c.args in
    let p = c.requires in
    let n = c.count-k in
    let fits = fits_for n.ensures p.fits in
    let table = powers_as_words a.field a.pw.now (omega (arith, first_point fits p.j_lt_step.0)) p.ac_len.1.1.powers in
    let q = c.shift_powers in
    let g = c.gather in
    let same = elements_even (spelling_of a.field) g.new.values a.tops.now g.auto.values in
    let r = rooted_part (field_of a.field) (laws a.field) a.pw.now (length (elements_at a.field a.table.now)) a.oracle n.result _ fits table a.j (zeros 33) q.new.powers p.j_lt_step.0 p.j_lt_step.1.0 (length_zeros 33) q.auto.powers (q.ensures a.field _ table) (same ∙ sym n.ensures) in r.0

pub returns : goal.returns
returns c =
    let a = c.args in
    let p = c.requires in
    let n = c.count-k in
    let fits = fits_for n.ensures p.fits in
    let table = powers_as_words a.field a.pw.now (omega (arith, first_point fits p.j_lt_step.0)) p.ac_len.1.1.powers in
    let h = c.shift_powers in
    let g = c.gather in
    let q = c.quotients in
    let same = elements_even (spelling_of a.field) g.new.values a.tops.now g.auto.values in
    let r = rooted_part (field_of a.field) (laws a.field) a.pw.now (length (elements_at a.field a.table.now)) a.oracle n.result (length (elements_at a.field g.new.values)) fits table a.j (zeros 33) h.new.powers p.j_lt_step.0 p.j_lt_step.1.0 (length_zeros 33) h.auto.powers (h.ensures a.field _ table) (same ∙ sym n.ensures) in
    λ m u.
    fractions_at a.field a.pw.now a.table.now a.ac.now a.vg.now a.oracle n.result fits p.ac_len.1.1 a.j p.j_lt_step.0 p.j_lt_step.1.0 m (omega (arith, u, n.ensures)) _ r.1
    (g.ensures.passed m u) (q.ensures.by_index m (omega (arith, u, same))) (q.ensures.by_index_2 m (omega (arith, u, same)))
