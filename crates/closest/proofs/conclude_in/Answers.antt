use Prim.Native.Nat.{ℕ}
use native.Mathlib.Omega.{arith}
use mathlib.Core.Path.{◌≡◌, sym, ◌∙◌, subst}
use lib.ListN.{length}
use lib.Pow.{pow_mono}
use Rattle.definition.specs.Field.{spelling_of}
use Rattle.layouts.specs.Spellings.{count_least, count_mono}
use Rattle.outcome.specs.Meaning.{answer_of}
use Rattle.plane_tables.specs.FourTable.{DomainTableAt}
use Rattle.spelling.specs.ByField.{elements_at, words_at}
use Rattle.spelling.specs.Words.{elements_many}
use Rattle.closest.proofs.Reporting.{far, near_enough}
use Rattle.closest.proofs.conclude_in.Goals as goal

-- `closest::conclude_in`: the table of f, the count, and the report of what the count allows.
pub domain_table-requires : goal.domain_table-requires
domain_table-requires c =
    let a = c.args in
    let p = c.requires in
    let h = p.halves.0 in
    let n = elements_many (spelling_of a.field) (length a.pw.now) a.values.now p.table_len.1.0 in record { halves = record { log = h.log; log_size = h.log_size; count_is = h.count_is; size_is = n ∙ h.size_is; fits = h.fits }; scale_nonzero = (omega arith, omega (arith, n)); out_len = (subst (λ (m : ℕ). length a.values.now ≡ words_at a.field m) (sym n) p.table_len.1.0, omega (arith, p.table_len.1)) }

pub differ-count-requires : goal.differ-count-requires
differ-count-requires c =
    let a = c.args in
    let σ = spelling_of a.field in
    let n = length a.pw.now in
    elements_many σ n c.domain_table.new.out (c.domain_table.auto.out ∙ c.requires.table_len.1.0) ∙ sym (elements_many σ n a.table.now c.requires.table_len.0)

pub overflow_sub-pw : goal.overflow_sub-pw
overflow_sub-pw c =
    let h = c.requires.halves.0 in
    omega (arith, c.count.ensures, h.count_is, h.size_is, pow_mono h.fits)

pub returns-then-pw-count : goal.returns-then-pw-count
unfolding answer_of
returns-then-pw-count c =
    let a = c.args in
    let o = c.domain_table in
    let v = o.new.out in
    far a.field a.pw.now a.table.now a.f.now v a.output.now
    (subst (λ (m : ℕ). DomainTableAt a.field a.f.now a.pw.now 1 m v) (elements_many (spelling_of a.field) (length a.pw.now) a.values.now c.requires.table_len.1.0) o.ensures) c.differ-count.ensures
    (omega (arith, c.count.ensures, c.if-pw-count.true))

pub report-requires : goal.report-requires
report-requires c =
    let a = c.args in
    let σ = spelling_of a.field in
    let n = length a.pw.now in
    let h = c.requires.halves.0 in
    let v = elements_many σ n c.domain_table.new.out (c.domain_table.auto.out ∙ c.requires.table_len.1.0) in
    let most = count_mono σ (length (elements_at a.field a.f.now)) n (omega (arith, h.count_is, h.size_is, pow_mono h.fits)) in record { values_len = (v ∙ sym (elements_many σ n a.table.now c.requires.table_len.0), (omega (arith, v, count_least σ n, c.requires.table_len.1.1), omega (arith, c.requires.halves.1, c.requires.table_len.1.1, most))); count_value = (c.differ-count.ensures, omega (arith, c.requires.f_in_bounds, c.count.ensures, c.if-pw-count.false)) }

pub returns : goal.returns
unfolding answer_of
returns c =
    let a = c.args in
    let o = c.domain_table in
    let v = o.new.out in
    near_enough a.field a.pw.now a.table.now a.f.now v a.output.now
    (subst (λ (m : ℕ). DomainTableAt a.field a.f.now a.pw.now 1 m v) (elements_many (spelling_of a.field) (length a.pw.now) a.values.now c.requires.table_len.1.0) o.ensures)
    c.requires.halves.1 c.differ-count.ensures (omega (arith, c.count.ensures, c.if-pw-count.false)) c.report.ensures.value c.report.ensures.output_after
