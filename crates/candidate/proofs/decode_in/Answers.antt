use Prim.Native.Nat.{ℕ, ◌+◌, ◌-◌, ◌/◌}
use native.Mathlib.Omega.{arith}
use mathlib.Core.Path.{◌≡◌, sym, ap, ◌∙◌}
use mathlib.Core.List.{List, ◌++◌}
use lib.ListN.{length, take, drop, set, length-set, length-replicate}
use lib.Seq.{length-take-le}
use Rattle.decoding.specs.Start.{unity, length_unity}
use Rattle.list_laws.specs.LentParts.{begun_long}
use Rattle.definition.specs.Field.{field_of}
use Rattle.algebra.specs.PrimeField.{laws}
use Rattle.decoder.specs.Answer.{polynomial_of}
use Rattle.candidate.proofs.Begin.{made_v, ready, candidate_is}
use Rattle.candidate.proofs.decode_in.Goals as goal

-- X^n - 1 in the places lent, of which the first n held the table before
start : (field n : ℕ) (s front : List ℕ) {u : List ℕ} → length s ≡ n + 1 → length front ≡ length (take n s) → u ≡ unity (field_of field) (length (front ++ drop n s) - 2)
    → u ≡ unity (field_of field) (n - 1)
start field n s front e f h =
    let m : length (front ++ drop n s) - 2 ≡ n - 1 = omega (arith, begun_long s front n (omega arith) f) in
    h ∙ ap (unity (field_of field)) m

pub slice_bounds-through-end-2 : goal.slice_bounds-through-end-2
slice_bounds-through-end-2 c = sym (length-take-le (length c.args.pw.now) c.args.s.now (omega (arith, c.requires.places.for_s)))

pub through-requires : goal.through-requires
through-requires c =
    let p = c.requires in record { halves = (p.sized.0.halves, p.sized.1); values_len = (length-take-le (length c.args.pw.now) c.args.s.now (omega (arith, p.places.for_s)), p.places.for_t) }

pub bounds-v-0 : goal.bounds-v-0
bounds-v-0 c = omega (arith, ap length c.requires.places.for_v, length-replicate {A = ℕ} ((length c.args.pw.now - length c.args.out.now) / 2 + 1) 0)

pub solve-requires : goal.solve-requires
solve-requires c =
    let a = c.args in
    let n = length a.pw.now in
    let z = c.requires.sized.0 in
    let p = c.requires.places in
    let t = c.through in
    let u = c.set_unity in
    let made = start a.field n a.s.now t.new.values p.for_s t.auto.values u.ensures in record {
      reducible = ready a.field n (length a.out.now) u.new.s a.w.now t.new.out (set a.v.now 0 c.reduce.result) z t.ensures.elements
          (t.auto.out ∙ p.for_t) made p.for_w (made_v a.field ((n - length a.out.now) / 2) n a.v.now p.for_v c.reduce.ensures);
      s_len = (omega (arith, ap length made, length_unity (field_of a.field) (laws a.field) (n - 1), z.two), (t.auto.out ∙ p.for_t, omega (arith, z.even, z.fewer)));
      out_nonzero = (z.some, omega (arith, z.even));
    }

pub shape_of-v : goal.shape_of-v
shape_of-v c = c.solve.auto.v ∙ length-set c.args.v.now 0 c.reduce.result

pub returns : goal.returns
returns c =
    let a = c.args in
    let n = length a.pw.now in
    let z = c.requires.sized.0 in
    let p = c.requires.places in
    let t = c.through in
    let u = c.set_unity in
    let made = start a.field n a.s.now t.new.values c.requires.places.for_s t.auto.values u.ensures in
    let o = c.solve in record {
      candidate = candidate_is a.field a.pw.now a.table.now u.new.s a.w.now t.new.out (set a.v.now 0 c.reduce.result) (length a.out.now)
          (polynomial_of o.result o.new.out) z c.requires.sized.1 t.ensures.through made p.for_w
          (made_v a.field ((n - length a.out.now) / 2) n a.v.now p.for_v c.reduce.ensures) o.ensures.decodes;
      of_elements = o.ensures.of_elements;
    }
