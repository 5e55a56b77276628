use Prim.Native.Nat.{ℕ, ◌≤◌}
use native.Mathlib.Omega.{arith}
use mathlib.Core.List.{List, ◌++◌}
use mathlib.Core.Path.{sym, ap, ◌∙◌}
use lib.ListN.{length, take, drop}
use lib.Seq.{length-take-le}
use Rattle.definition.specs.Prover.{table_words}
use Rattle.definition.specs.Sheet.{edition1, sheet_of}
use Rattle.list_laws.specs.LentParts.{begun_long}
use Rattle.list_laws.specs.Zeros.{length_zeros, zeros}
use Rattle.batch_front.proofs.OneByOne.{coefficients_inside, degree_small, padded_table}
use Rattle.batch_front.proofs.table.Goals as goal

-- `batch_front::table` meets its contract: zeros behind the coefficients. Assumes nothing.
pub bounds-w-0 : goal.bounds-w-0
bounds-w-0 c = omega (arith, c.requires.in_bounds.0)

pub bounds-w-2 : goal.bounds-w-2
bounds-w-2 c = omega (arith, c.requires.in_bounds.0)

pub overflow_cast-w : goal.overflow_cast-w
overflow_cast-w c = omega (arith, c.shared_slice_known-4-1.given 2)

pub words-degree-requires : goal.words-degree-requires
words-degree-requires c = omega (arith, c.shared_slice_known-4-1.given 2)

pub slice_bounds-padded-end : goal.slice_bounds-padded-end
slice_bounds-padded-end c =
    let a = c.args in
    let p = c.requires in
    omega (arith, coefficients_inside a.w.now p.in_bounds.1 a.f.now p.f_len.0 p.f_len.1, degree_small a.w.now p.in_bounds.1 p.in_bounds.0)

pub slice_bounds-copy_from_slice-end : goal.slice_bounds-copy_from_slice-end
slice_bounds-copy_from_slice-end c =
    let a = c.args in
    let p = c.requires in
    sym (length-take-le (length a.f.now) (zeros 2048) (omega (arith, length_zeros 2048, coefficients_inside a.w.now p.in_bounds.1 a.f.now p.f_len.0 p.f_len.1, degree_small a.w.now p.in_bounds.1 p.in_bounds.0)))

pub copy_from_slice-requires : goal.copy_from_slice-requires
copy_from_slice-requires c =
    let a = c.args in
    let p = c.requires in
    length-take-le (length a.f.now) (zeros 2048) (omega (arith, length_zeros 2048, coefficients_inside a.w.now p.in_bounds.1 a.f.now p.f_len.0 p.f_len.1, degree_small a.w.now p.in_bounds.1 p.in_bounds.0))

pub slice_bounds-padded-end-2 : goal.slice_bounds-padded-end-2
unfolding sheet_of
slice_bounds-padded-end-2 c =
    let a = c.args in
    let p = c.requires in
    let y = c.copy_from_slice in
    let small = degree_small a.w.now p.in_bounds.1 p.in_bounds.0 in
    let inside : length a.f.now ≤ length (zeros 2048) = omega (arith, length_zeros 2048, coefficients_inside a.w.now p.in_bounds.1 a.f.now p.f_len.0 p.f_len.1, small) in
    omega (arith, c.words-degree.ensures.0, small, length_zeros 2048, begun_long (zeros 2048) y.new.self (length a.f.now) inside y.auto.self)

pub slice_bounds-of_polynomial-end : goal.slice_bounds-of_polynomial-end
unfolding sheet_of
slice_bounds-of_polynomial-end c =
    let a = c.args in
    let p = c.requires in
    let y = c.copy_from_slice in
    let small = degree_small a.w.now p.in_bounds.1 p.in_bounds.0 in
    let inside : length a.f.now ≤ length (zeros 2048) = omega (arith, length_zeros 2048, coefficients_inside a.w.now p.in_bounds.1 a.f.now p.f_len.0 p.f_len.1, small) in
    sym (length-take-le c.words-degree.result (y.new.self ++ drop (length a.f.now) (zeros 2048)) (omega (arith, c.words-degree.ensures.0, small, length_zeros 2048, begun_long (zeros 2048) y.new.self (length a.f.now) inside y.auto.self)))

pub of_polynomial-requires : goal.of_polynomial-requires
unfolding sheet_of
of_polynomial-requires c =
    let a = c.args in
    let p = c.requires in
    let y = c.copy_from_slice in
    let u = c.words-degree in
    let small = degree_small a.w.now p.in_bounds.1 p.in_bounds.0 in
    let inside : length a.f.now ≤ length (zeros 2048) = omega (arith, length_zeros 2048, coefficients_inside a.w.now p.in_bounds.1 a.f.now p.f_len.0 p.f_len.1, small) in
    let fits : u.result ≤ length (y.new.self ++ drop (length a.f.now) (zeros 2048)) = omega (arith, u.ensures.0, small, length_zeros 2048, begun_long (zeros 2048) y.new.self (length a.f.now) inside y.auto.self) in record { in_bounds = p.in_bounds; f_len = length-take-le u.result (y.new.self ++ drop (length a.f.now) (zeros 2048)) fits ∙ u.ensures.0; out_len = p.out_len }

pub returns : goal.returns
unfolding sheet_of
returns c =
    let a = c.args in
    let p = c.requires in
    let y = c.copy_from_slice in
    let u = c.words-degree in
    c.of_polynomial.ensures ∙ ap (λ (v : List ℕ). table_words (sheet_of edition1 a.w.now) (take u.result (v ++ drop (length a.f.now) (zeros 2048)))) y.ensures.after
    ∙ padded_table a.w.now p.in_bounds.1 a.f.now p.f_len.0 p.f_len.1 u.ensures.0
