use Prim.Native.Nat.{ℕ, ◌+◌, ◌-◌, ◌*◌}
use native.Mathlib.Omega.{arith}
use mathlib.Core.Path.{◌≡◌, sym, ap, ◌∙◌}
use lib.ListN.{length}
use Rattle.definition.specs.Sheet.{sheet_of}
use Rattle.root_values.proofs.Parts.{part_is}
use Rattle.batch_front.proofs.OneByOne.{all_written, none_written, one_more, part_few, part_inside, part_whole, place_inside, tables_small}
use Rattle.batch_front.proofs.tables.Goals as goal

pub bounds-w-0 : goal.bounds-w-0
bounds-w-0 c = omega (arith, c.requires.ordered.long)

pub bounds-w-1 : goal.bounds-w-1
bounds-w-1 c = omega (arith, c.requires.ordered.long)

pub overflow_cast-w : goal.overflow_cast-w
overflow_cast-w c = omega (arith, c.shared_slice_known-5-1.given 1)

pub words-size-requires : goal.words-size-requires
words-size-requires c = omega (arith, c.shared_slice_known-5-1.given 1)

pub loop-m-init : goal.loop-m-init
unfolding sheet_of
loop-m-init c =
    let a = c.args in
    let u = c.words-size in
    none_written a.w.now a.bounds.now a.f.now c.requires.ordered u.result a.out.now (c.requires.out_len ∙ ap (λ (n : ℕ). n * length a.bounds.now) (sym u.ensures.0))

pub bounds-w-0-in-loop-m : goal.bounds-w-0-in-loop-m
bounds-w-0-in-loop-m c = omega (arith, c.requires.ordered.long)

pub overflow_mul-from : goal.overflow_mul-from
unfolding sheet_of
overflow_mul-from c =
    let a = c.args in
    let l = c.loop-m in
    let x = place_inside a.w.now a.bounds.now a.f.now c.requires.ordered c.words-size.result l.m l.at c.words-count.result l.out l.invariant c.loop-m-test.true c.words-count.ensures.0 in
    omega (arith, x, l.invariant.1, tables_small a.w.now a.bounds.now a.f.now c.requires.ordered c.words-size.ensures.0)

pub overflow_add-at : goal.overflow_add-at
unfolding sheet_of
overflow_add-at c =
    let a = c.args in
    let l = c.loop-m in
    omega (arith, part_inside a.w.now a.bounds.now a.f.now c.requires.ordered c.words-size.result l.m l.at c.words-count.result l.out l.invariant c.loop-m-test.true c.words-count.ensures.0)

pub offset_bounds-f-at : goal.offset_bounds-f-at
unfolding sheet_of
offset_bounds-f-at c =
    let a = c.args in
    let l = c.loop-m in
    omega (arith, part_inside a.w.now a.bounds.now a.f.now c.requires.ordered c.words-size.result l.m l.at c.words-count.result l.out l.invariant c.loop-m-test.true c.words-count.ensures.0)

pub slice_bounds-table-end : goal.slice_bounds-table-end
unfolding sheet_of
slice_bounds-table-end c =
    let a = c.args in
    let l = c.loop-m in
    omega (arith, part_inside a.w.now a.bounds.now a.f.now c.requires.ordered c.words-size.result l.m l.at c.words-count.result l.out l.invariant c.loop-m-test.true c.words-count.ensures.0)

pub overflow_add-from : goal.overflow_add-from
unfolding sheet_of
overflow_add-from c =
    let a = c.args in
    let l = c.loop-m in
    let x = place_inside a.w.now a.bounds.now a.f.now c.requires.ordered c.words-size.result l.m l.at c.words-count.result l.out l.invariant c.loop-m-test.true c.words-count.ensures.0 in
    omega (arith, x, l.invariant.1, tables_small a.w.now a.bounds.now a.f.now c.requires.ordered c.words-size.ensures.0)

pub offset_bounds-out-from : goal.offset_bounds-out-from
unfolding sheet_of
offset_bounds-out-from c =
    let a = c.args in
    let l = c.loop-m in
    let x = place_inside a.w.now a.bounds.now a.f.now c.requires.ordered c.words-size.result l.m l.at c.words-count.result l.out l.invariant c.loop-m-test.true c.words-count.ensures.0 in
    omega (arith, x, l.invariant.1, tables_small a.w.now a.bounds.now a.f.now c.requires.ordered c.words-size.ensures.0)

pub slice_bounds-table-end-in-loop-m : goal.slice_bounds-table-end-in-loop-m
unfolding sheet_of
slice_bounds-table-end-in-loop-m c =
    let a = c.args in
    let l = c.loop-m in
    place_inside a.w.now a.bounds.now a.f.now c.requires.ordered c.words-size.result l.m l.at c.words-count.result l.out l.invariant c.loop-m-test.true c.words-count.ensures.0

pub table-requires : goal.table-requires
unfolding sheet_of
table-requires c =
    let a = c.args in
    let l = c.loop-m in
    let ok = c.requires.ordered in
    let n = c.words-count.result in
    let size = c.words-size.result in
    let more = c.loop-m-test.true in
    let e : l.at + n - l.at ≡ n = omega arith in
    let inside = place_inside a.w.now a.bounds.now a.f.now ok size l.m l.at n l.out l.invariant more c.words-count.ensures.0 in record {
      in_bounds = (ok.long, ok.passed);
      f_len = (
        part_whole a.w.now a.bounds.now a.f.now ok size l.m l.at n l.out l.invariant more c.words-count.ensures.0 e,
        part_few a.w.now a.bounds.now a.f.now ok size l.m l.at n l.out l.invariant more c.words-count.ensures.0 e,
      );
      out_len = part_is l.out (size * l.m) size inside ∙ c.words-size.ensures.0;
    }

pub overflow_add-at-in-loop-m : goal.overflow_add-at-in-loop-m
unfolding sheet_of
overflow_add-at-in-loop-m c =
    let a = c.args in
    let l = c.loop-m in
    omega (arith, part_inside a.w.now a.bounds.now a.f.now c.requires.ordered c.words-size.result l.m l.at c.words-count.result l.out l.invariant c.loop-m-test.true c.words-count.ensures.0)

pub loop-m-preserved : goal.loop-m-preserved
unfolding sheet_of
loop-m-preserved c =
    let a = c.args in
    let l = c.loop-m in
    let ok = c.requires.ordered in
    let n = c.words-count.result in
    let size = c.words-size.result in
    let more = c.loop-m-test.true in
    let t = c.table in
    let e : l.at + n - l.at ≡ n = omega arith in
    let k : size * l.m + size - size * l.m ≡ size = omega arith in
    let inside = place_inside a.w.now a.bounds.now a.f.now ok size l.m l.at n l.out l.invariant more c.words-count.ensures.0 in
    one_more a.w.now a.bounds.now a.f.now ok size l.m l.at n l.out l.invariant more c.words-count.ensures.0 e k t.new.out (t.auto.out ∙ part_is l.out (size * l.m) size inside) t.ensures

pub shape_of-out : goal.shape_of-out
unfolding sheet_of
shape_of-out c =
    let a = c.args in
    c.loop-m.invariant.1 ∙ ap (λ (n : ℕ). n * length a.bounds.now) c.words-size.ensures.0 ∙ sym c.requires.out_len

pub returns : goal.returns
returns c =
    let a = c.args in
    let l = c.loop-m in
    all_written a.w.now a.bounds.now a.f.now c.requires.ordered c.words-size.result l.m l.at l.out l.invariant c.loop-m-test.false
