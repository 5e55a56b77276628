use native.Mathlib.Omega.{arith}
use mathlib.Core.Path.{sym, ◌∙◌}
use lib.ListN.{get_or, take}
use lib.Seq.{length-take-le}
use Rattle.definition.specs.Sheet.{sheet_of}
use Rattle.list_laws.specs.Zeros.{length_zeros, zeros}
use Rattle.batches.proofs.AllowedBatches.{batch_enough, batch_some}
use Rattle.elements.specs.Meaning.{value_at}
use Rattle.batch_prove.proofs.Combining.{combined_words, parted, places_enough}
use Rattle.batch_prove.proofs.combined.Goals as goal

-- `batch_prove::combined` meets its contract. Assumes nothing.
pub bounds-w-0 : goal.bounds-w-0
bounds-w-0 c = omega (arith, batch_enough c.requires.allowed_batch)

pub bounds-w-2 : goal.bounds-w-2
bounds-w-2 c = omega (arith, batch_enough c.requires.allowed_batch)

pub overflow_cast-degree : goal.overflow_cast-degree
overflow_cast-degree c = omega (arith, c.shared_slice_known-6-1.given 2)

pub words-n-requires : goal.words-n-requires
words-n-requires c = omega (arith, c.shared_slice_known-6-1.given 2)

pub at-r-requires : goal.at-r-requires
unfolding sheet_of
at-r-requires c = omega (arith, (batch_some c.requires.allowed_batch).0)

pub slice_bounds-scratch-end : goal.slice_bounds-scratch-end
unfolding sheet_of
slice_bounds-scratch-end c = omega (arith, c.words-n.ensures.0, places_enough c.requires.allowed_batch)

pub slice_bounds-polynomial-end : goal.slice_bounds-polynomial-end
unfolding sheet_of
slice_bounds-polynomial-end c = sym (length-take-le c.words-n.result (zeros 2048) (omega (arith, c.words-n.ensures.0, length_zeros 2048, places_enough c.requires.allowed_batch)))

pub polynomial-requires : goal.polynomial-requires
unfolding sheet_of
polynomial-requires c =
    let a = c.args in
    let u = c.words-n in
    parted c.requires.allowed_batch (take u.result (zeros 2048)) a.out.now (length-take-le u.result (zeros 2048) (omega (arith, u.ensures.0, length_zeros 2048, places_enough c.requires.allowed_batch)) ∙ u.ensures.0) c.requires.out_len

pub returns : goal.returns
unfolding sheet_of
returns c =
    let a = c.args in
    let p = c.polynomial in
    combined_words c.requires.allowed_batch (value_at (get_or a.w.now 0 0) c.at-r.result) p.new.out c.at-r.ensures p.ensures (p.auto.out ∙ c.requires.out_len)
