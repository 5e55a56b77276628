use Prim.Native.Nat.{ℕ, ◌*◌, ◌≤◌}
use native.Mathlib.Omega.{arith}
use mathlib.Core.Path.{sym, ap, ◌∙◌}
use lib.ListN.{length, take}
use lib.Seq.{length-take-le}
use Rattle.definition.specs.Sheet.{sheet_of}
use Rattle.list_laws.specs.LentParts.{begun_long, joined, others_long}
use Rattle.batch_front.proofs.OneByOne.{tables_small}
use Rattle.batch_front.proofs.tables_and_coin.Goals as goal

-- `batch_front::tables_and_coin` meets its contract. Assumes nothing.
pub bounds-w-0 : goal.bounds-w-0
bounds-w-0 c = omega (arith, c.requires.ordered.0.long)

pub bounds-w-0-2 : goal.bounds-w-0-2
bounds-w-0-2 c = omega (arith, c.requires.ordered.0.long)

pub bounds-w-1 : goal.bounds-w-1
bounds-w-1 c = omega (arith, c.requires.ordered.0.long)

pub overflow_cast-w : goal.overflow_cast-w
overflow_cast-w c = omega (arith, c.shared_slice_known-7-1.given 1)

pub words-requires : goal.words-requires
words-requires c = omega (arith, c.shared_slice_known-7-1.given 1)

pub overflow_mul-n : goal.overflow_mul-n
unfolding sheet_of
overflow_mul-n c =
    let a = c.args in
    omega (arith, tables_small a.w.now a.bounds.now a.f.now c.requires.ordered.0 c.words.ensures.0)

pub slice_bounds-tables-end : goal.slice_bounds-tables-end
unfolding sheet_of
slice_bounds-tables-end c =
    let a = c.args in
    omega (arith, c.requires.out_len, ap (λ (n : ℕ). n * length a.bounds.now) c.words.ensures.0)

pub slice_bounds-tables-end-2 : goal.slice_bounds-tables-end-2
unfolding sheet_of
slice_bounds-tables-end-2 c =
    let a = c.args in
    sym (length-take-le (c.words.result * length a.bounds.now) a.out.now (omega (arith, c.requires.out_len, ap (λ (n : ℕ). n * length a.bounds.now) c.words.ensures.0)))

pub tables-requires : goal.tables-requires
unfolding sheet_of
tables-requires c =
    let a = c.args in
    let e = ap (λ (n : ℕ). n * length a.bounds.now) c.words.ensures.0 in record { ordered = c.requires.ordered.0; out_len = length-take-le (c.words.result * length a.bounds.now) a.out.now (omega (arith, c.requires.out_len, e)) ∙ e }

pub slice_bounds-copy_from_slice-end-2 : goal.slice_bounds-copy_from_slice-end-2
unfolding sheet_of
slice_bounds-copy_from_slice-end-2 c =
    let a = c.args in
    sym (length-take-le c.words-width.result a.coins.now (omega (arith, c.requires.ordered.1, c.words-width.ensures.0)))

pub offset_bounds-out-n : goal.offset_bounds-out-n
unfolding sheet_of
offset_bounds-out-n c =
    let a = c.args in
    omega (arith, tables_small a.w.now a.bounds.now a.f.now c.requires.ordered.0 c.words.ensures.0)

pub slice_bounds-copy_from_slice-count : goal.slice_bounds-copy_from_slice-count
unfolding sheet_of
slice_bounds-copy_from_slice-count c =
    let a = c.args in
    let y = c.tables in
    let l : c.words.result * length a.bounds.now ≤ length a.out.now = omega (arith, c.requires.out_len, ap (λ (n : ℕ). n * length a.bounds.now) c.words.ensures.0) in
    omega (arith, begun_long a.out.now y.new.out (c.words.result * length a.bounds.now) l y.auto.out, l)

pub slice_bounds-copy_from_slice-start : goal.slice_bounds-copy_from_slice-start
unfolding sheet_of
slice_bounds-copy_from_slice-start c =
    let a = c.args in
    let y = c.tables in
    let l : c.words.result * length a.bounds.now ≤ length a.out.now = omega (arith, c.requires.out_len, ap (λ (n : ℕ). n * length a.bounds.now) c.words.ensures.0) in
    omega (arith, begun_long a.out.now y.new.out (c.words.result * length a.bounds.now) l y.auto.out, l)

pub copy_from_slice-requires : goal.copy_from_slice-requires
unfolding sheet_of
copy_from_slice-requires c =
    let a = c.args in
    let y = c.tables in
    let e = ap (λ (n : ℕ). n * length a.bounds.now) c.words.ensures.0 in
    let l : c.words.result * length a.bounds.now ≤ length a.out.now = omega (arith, c.requires.out_len, e) in
    others_long a.out.now y.new.out (c.words.result * length a.bounds.now) l y.auto.out
    ∙ omega (arith, c.requires.out_len, e, c.words-width.ensures.0, length-take-le c.words-width.result a.coins.now (omega (arith, c.requires.ordered.1, c.words-width.ensures.0)))

pub returns : goal.returns
unfolding sheet_of
returns c =
    let a = c.args in
    let y = c.tables in
    let v = c.copy_from_slice in
    let l : c.words.result * length a.bounds.now ≤ length a.out.now = omega (arith, c.requires.out_len, ap (λ (n : ℕ). n * length a.bounds.now) c.words.ensures.0) in
    joined a.out.now y.new.out (c.words.result * length a.bounds.now) l y.auto.out v.new.self y.ensures (v.ensures.after ∙ ap (λ (n : ℕ). take n a.coins.now) c.words-width.ensures.0)
