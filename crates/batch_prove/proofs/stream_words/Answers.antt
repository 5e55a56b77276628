use Prim.Native.Nat.{ℕ, ◌+◌, ◌-◌, ◌≤◌}
use native.Mathlib.Omega.{arith}
use mathlib.Core.List.{List, ◌++◌}
use mathlib.Core.Path.{sym, ap, ◌∙◌, subst}
use lib.ListN.{length, take, drop, length-drop}
use lib.Seq.{length-take-le}
use borrow.Rule.Slice.PartMut.{put_mid, same_len_mid}
use Rattle.definition.specs.Prover.{honest_stream}
use Rattle.definition.specs.Sheet.{edition1, sheet_of}
use Rattle.list_laws.specs.LentParts.{begun_long, front_stays}
use Rattle.list_laws.specs.Lists.{rest_all}
use Rattle.list_laws.specs.Zeros.{length_zeros, zeros}
use Rattle.completeness.specs.Numbered.{Allowed}
use Rattle.batches.proofs.AllowedBatches.{batch_enough, batch_entries, batch_number, batch_some}
use Rattle.batches.proofs.PlainProver.{combined_words, plain_allowed}
use Rattle.edition.specs.Meaning.{edition_of}
use Rattle.batch_prove.proofs.Combining.{places_enough}
use Rattle.batch_prove.proofs.Joined.{front_inside, front_room, ordered, plain_room, stream_is}
use Rattle.batch_prove.proofs.stream_words.Goals as goal

-- `batch_prove::stream_words` meets its contract: the plain prover's words of the combined polynomial, and the front over them. Assumes nothing.
pub bounds-w-0 : goal.bounds-w-0
bounds-w-0 c = omega (arith, batch_enough c.requires.allowed_batch)

pub bounds-w-2 : goal.bounds-w-2
bounds-w-2 c = omega (arith, batch_enough c.requires.allowed_batch)

pub overflow_cast-w : goal.overflow_cast-w
overflow_cast-w c = omega (arith, c.shared_slice_known-6-1.given 2)

pub words-n-requires : goal.words-n-requires
words-n-requires c = omega (arith, c.shared_slice_known-6-1.given 2)

pub slice_bounds-g-end : goal.slice_bounds-g-end
unfolding sheet_of
slice_bounds-g-end c = omega (arith, c.words-n.ensures.0, places_enough c.requires.allowed_batch)

pub slice_bounds-combined-end : goal.slice_bounds-combined-end
unfolding sheet_of
slice_bounds-combined-end c = sym (length-take-le c.words-n.result (zeros 2048) (omega (arith, c.words-n.ensures.0, length_zeros 2048, places_enough c.requires.allowed_batch)))

pub combined-requires : goal.combined-requires
unfolding sheet_of
combined-requires c =
    let u = c.words-n in record { allowed_batch = c.requires.allowed_batch; out_len = length-take-le u.result (zeros 2048) (omega (arith, u.ensures.0, length_zeros 2048, places_enough c.requires.allowed_batch)) ∙ u.ensures.0 }

pub bounds-w-0-2 : goal.bounds-w-0-2
bounds-w-0-2 c = omega (arith, batch_enough c.requires.allowed_batch)

pub shift-shift-requires : goal.shift-shift-requires
shift-shift-requires c =
    let ok = c.requires.allowed_batch in record { in_bounds = batch_enough ok; le_count = ((batch_number ok).0, ((batch_number ok).1, batch_entries ok)) }

pub slice_bounds-g-end-2 : goal.slice_bounds-g-end-2
unfolding sheet_of
slice_bounds-g-end-2 c =
    let u = c.words-n in
    let g = c.combined in
    let inside : u.result ≤ length (zeros 2048) = omega (arith, u.ensures.0, length_zeros 2048, places_enough c.requires.allowed_batch) in
    omega (arith, inside, begun_long (zeros 2048) g.new.out u.result inside g.auto.out)

pub slice_bounds-stream-end : goal.slice_bounds-stream-end
unfolding sheet_of
slice_bounds-stream-end c =
    let u = c.words-n in
    let g = c.combined in
    let inside : u.result ≤ length (zeros 2048) = omega (arith, u.ensures.0, length_zeros 2048, places_enough c.requires.allowed_batch) in
    sym (length-take-le u.result (g.new.out ++ drop u.result (zeros 2048)) (omega (arith, inside, begun_long (zeros 2048) g.new.out u.result inside g.auto.out)))

pub slice_bounds-stream-count : goal.slice_bounds-stream-count
unfolding sheet_of
slice_bounds-stream-count c = omega (arith, (batch_some c.requires.allowed_batch).0, c.words-width.ensures.0)

pub slice_bounds-stream-start : goal.slice_bounds-stream-start
unfolding sheet_of
slice_bounds-stream-start c = omega (arith, (batch_some c.requires.allowed_batch).0, c.words-width.ensures.0)

pub slice_bounds-stream-count-2 : goal.slice_bounds-stream-count-2
slice_bounds-stream-count-2 c = omega (arith, (plain_room c.requires.allowed_batch c.shift-shift.ensures.0 c.requires.out_len).0)

pub slice_bounds-stream-start-2 : goal.slice_bounds-stream-start-2
slice_bounds-stream-start-2 c = omega (arith, (plain_room c.requires.allowed_batch c.shift-shift.ensures.0 c.requires.out_len).0)

pub stream-requires : goal.stream-requires
unfolding edition_of sheet_of
stream-requires c =
    let a = c.args in
    let ok = c.requires.allowed_batch in
    let u = c.words-n in
    let o = c.words-width in
    let s = c.shift-shift in
    let g = c.combined in
    let inside : u.result ≤ length (zeros 2048) = omega (arith, u.ensures.0, length_zeros 2048, places_enough ok) in
    let polynomial = front_stays (zeros 2048) g.new.out u.result inside g.auto.out ∙ g.ensures in
    let others = rest_all o.result a.coins.now ∙ ap (λ (n : ℕ). drop n a.coins.now) o.ensures.0 in record {
      allowed = subst (λ (p : List ℕ). Allowed edition1 a.w.now p (take (length a.coins.now - o.result) (drop o.result a.coins.now))) (sym polynomial)
          (subst (Allowed edition1 a.w.now (combined_words ok)) (sym others) (plain_allowed ok));
      out_len = ap length (rest_all s.result a.out.now) ∙ length-drop s.result a.out.now ∙ (plain_room ok s.ensures.0 c.requires.out_len).1;
    }

pub overflow_add-at : goal.overflow_add-at
overflow_add-at c = omega (arith, c.shift-shift.ensures.1)

pub bounds-w-0-3 : goal.bounds-w-0-3
bounds-w-0-3 c = omega (arith, batch_enough c.requires.allowed_batch)

pub bounds-w-1 : goal.bounds-w-1
bounds-w-1 c = omega (arith, batch_enough c.requires.allowed_batch)

pub overflow_cast-w-2 : goal.overflow_cast-w-2
overflow_cast-w-2 c = omega (arith, c.shared_slice_known-9-1.given 1)

pub words-requires : goal.words-requires
words-requires c = omega (arith, c.shared_slice_known-9-1.given 1)

pub overflow_add-at-2 : goal.overflow_add-at-2
overflow_add-at-2 c = omega (arith, c.shift-shift.ensures.1, c.words.ensures.1, c.shared_slice_known-9-1.given 1)

pub slice_bounds-front-end : goal.slice_bounds-front-end
unfolding sheet_of
slice_bounds-front-end c =
    let a = c.args in
    let ok = c.requires.allowed_batch in
    let s = c.shift-shift in
    let t = c.stream in
    let ends = ap (λ (n : ℕ). s.result + 12 + n) c.words.ensures.0 in
    omega (arith, front_inside ok s.ensures.0 ends c.requires.out_len, same_len_mid s.result (length a.out.now - s.result) a.out.now t.new.out t.auto.out)

pub slice_bounds-front-end-2 : goal.slice_bounds-front-end-2
unfolding sheet_of
slice_bounds-front-end-2 c =
    let a = c.args in
    let ok = c.requires.allowed_batch in
    let s = c.shift-shift in
    let t = c.stream in
    let ends = ap (λ (n : ℕ). s.result + 12 + n) c.words.ensures.0 in
    sym (length-take-le (s.result + 12 + c.words.result) (put_mid s.result (length a.out.now - s.result) a.out.now t.new.out)
    (omega (arith, front_inside ok s.ensures.0 ends c.requires.out_len, same_len_mid s.result (length a.out.now - s.result) a.out.now t.new.out t.auto.out)))

pub front-requires : goal.front-requires
unfolding sheet_of
front-requires c =
    let a = c.args in
    let ok = c.requires.allowed_batch in
    let s = c.shift-shift in
    let t = c.stream in
    let ends = ap (λ (n : ℕ). s.result + 12 + n) c.words.ensures.0 in record {
      ordered = (ordered ok, (batch_some ok).0);
      out_len = length-take-le (s.result + 12 + c.words.result) (put_mid s.result (length a.out.now - s.result) a.out.now t.new.out)
          (omega (arith, front_inside ok s.ensures.0 ends c.requires.out_len, same_len_mid s.result (length a.out.now - s.result) a.out.now t.new.out t.auto.out))
          ∙ front_room ok s.ensures.0 ends;
    }

pub returns : goal.returns
unfolding edition_of sheet_of
returns c =
    let a = c.args in
    let ok = c.requires.allowed_batch in
    let u = c.words-n in
    let o = c.words-width in
    let s = c.shift-shift in
    let g = c.combined in
    let t = c.stream in
    let v = c.front in
    let inside : u.result ≤ length (zeros 2048) = omega (arith, u.ensures.0, length_zeros 2048, places_enough ok) in
    let polynomial = front_stays (zeros 2048) g.new.out u.result inside g.auto.out ∙ g.ensures in
    let others = rest_all o.result a.coins.now ∙ ap (λ (n : ℕ). drop n a.coins.now) o.ensures.0 in
    let ends = ap (λ (n : ℕ). s.result + 12 + n) c.words.ensures.0 in
    stream_is ok s.ensures.0 ends a.out.now t.new.out v.new.out c.requires.out_len (t.ensures ∙ (λ i. honest_stream edition1 a.w.now (polynomial i) (others i))) v.ensures
