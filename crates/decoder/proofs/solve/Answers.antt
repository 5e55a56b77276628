use Prim.Native.Nat.{ℕ, ◌+◌}
use native.Mathlib.Omega.{arith}
use mathlib.Core.Path.{◌≡◌, refl, sym, ◌∙◌, subst}
use lib.ListN.{length, take}
use lib.Seq.{length-take-le}
use Rattle.list_laws.specs.All.{all_take}
use Rattle.list_laws.specs.LentParts.{begun_long}
use Rattle.definition.specs.Field.{field_of, prime_field}
use Rattle.algebra.specs.PrimeField.{laws}
use Rattle.decoding.specs.Reduction.{turned}
use Rattle.decoder.specs.Steps.{Divided}
use Rattle.decoder.proofs.Rounds.{loop_start, before_loop, first_ready, second_ready, loop_next, falls, ended_at}
use Rattle.decoder.proofs.solve.Goals as goal

pub overflow_add-a : goal.overflow_add-a
overflow_add-a c = omega (arith, c.requires.reducible.small)

pub reduce-b-requires : goal.reduce-b-requires
reduce-b-requires c = c.requires.reducible

pub loop-b-init : goal.loop-b-init
loop-b-init c =
    let a = c.args in
    let p = c.reduce-b in (
      refl,
      loop_start a.field a.n a.least a.s.now a.w.now (a.n + 1) p.new.s p.new.w p.result a.t.now a.v.now refl
          c.requires.reducible c.requires.s_len.0 c.requires.s_len.1.0 p.auto.s p.auto.w p.ensures.reduced p.ensures.ends,
    )

pub reduce-a-requires : goal.reduce-a-requires
reduce-a-requires c =
    let a = c.args in
    let p = c.reduce-b in
    first_ready a.field a.n a.least a.s.now a.w.now (a.n + 1) p.new.s p.new.w p.result c.loop-b.invariant.1 c.loop-b-test.true

pub finish-requires : goal.finish-requires
finish-requires c =
    let l = c.loop-b in
    let r = c.reduce-a in
    let long : length (take c.args.least r.new.s) ≡ c.args.least = length-take-le c.args.least r.new.s (omega (arith, r.auto.s, l.invariant.1.long_s, c.requires.s_len.1.1)) in record {
      width = (omega (arith, r.auto.w, l.invariant.1.width_w, c.requires.s_len.1.1), omega (arith, long, l.invariant.0, r.auto.w, l.invariant.1.width_w, c.requires.s_len.1.1, c.requires.out_nonzero.1));
      elements = all_take (λ x. (laws c.args.field).reduce x ≡ x) c.args.least r.new.s r.ensures.reduced.stage.elements_s;
    }

pub shape_of-s-then-a-least : goal.shape_of-s-then-a-least
shape_of-s-then-a-least c =
    begun_long c.reduce-a.new.s c.finish.new.s c.args.least (omega (arith, c.reduce-a.auto.s, c.loop-b.invariant.1.long_s, c.requires.s_len.1.1)) c.finish.auto.s ∙ c.reduce-a.auto.s ∙ c.loop-b.invariant.1.long_s ∙ sym c.requires.s_len.0

pub shape_of-w-then-a-least : goal.shape_of-w-then-a-least
shape_of-w-then-a-least c = c.reduce-a.auto.w ∙ c.loop-b.invariant.1.width_w ∙ sym c.requires.reducible.width_v

pub shape_of-t-then-a-least : goal.shape_of-t-then-a-least
shape_of-t-then-a-least c = c.loop-b.invariant.1.long_t ∙ sym c.requires.s_len.1.0

pub shape_of-v-then-a-least : goal.shape_of-v-then-a-least
shape_of-v-then-a-least c = c.loop-b.invariant.1.width_v ∙ sym c.requires.reducible.width_w

pub shape_of-out-then-a-least : goal.shape_of-out-then-a-least
shape_of-out-then-a-least c = c.finish.auto.out ∙ c.loop-b.invariant.0

pub returns-then-a-least : goal.returns-then-a-least
unfolding field_of prime_field
returns-then-a-least c =
    let a = c.args in
    let q = c.reduce-b in
    let l = c.loop-b in
    let r = c.reduce-a in
    let f = c.finish in
    let divided = subst (λ (m : ℕ). Divided a.field r.new.w (take a.least r.new.s) m f.result f.new.out) l.invariant.0 f.ensures in record {
      decodes = ended_at a.field a.n a.least a.s.now a.w.now a.t.now a.v.now r.new.s r.new.w r.result l.t l.v l.b (length a.out.now) f.result f.new.out
          (omega (arith, r.ensures.reduced.from, c.if-a-least.true)) r.ensures.reduced.stage (omega (arith, r.auto.s, l.invariant.1.long_s, c.requires.s_len.1.1))
          (r.auto.w ∙ l.invariant.1.width_w)
          (λ x y m k. let o = before_loop a.field a.n a.least a.s.now a.w.now (a.n + 1) q.new.s q.new.w q.result a.t.now a.v.now refl
          c.requires.s_len.0 c.requires.s_len.1.0 q.ensures.reduced x y m k in
          let z = l.invariant.1.meets x y o.0 o.1 in r.ensures.reduced.meets x y z.0 z.1)
          c.requires.s_len.1.1 c.requires.out_nonzero.0 c.requires.out_nonzero.1 divided;
      of_elements = divided.elements;
    }

pub reduce-b-requires-in-loop-b : goal.reduce-b-requires-in-loop-b
reduce-b-requires-in-loop-b c =
    let a = c.args in
    let p = c.reduce-b in
    let r = c.reduce-a in
    second_ready a.field a.n a.least a.s.now a.w.now (a.n + 1) p.new.s p.new.w p.result c.loop-b.invariant.1 c.loop-b-test.true
    r.ensures.reduced r.ensures.ends r.auto.s r.auto.w (omega (arith, c.if-a-least.false))

pub loop-b-smaller : goal.loop-b-smaller
loop-b-smaller c =
    let a = c.args in
    let p = c.reduce-b in
    let r = c.reduce-a in
    let q = c.reduce-b-in-loop-b in
    falls a.field a.n a.least a.s.now a.w.now (a.n + 1) p.new.s p.new.w p.result
    r.new.s q.new.s c.loop-b.b r.result q.result c.loop-b-test.true r.ensures.ends (omega (arith, c.if-a-least.false)) q.ensures.ends q.ensures.reduced.from

pub loop-b-preserved : goal.loop-b-preserved
loop-b-preserved c =
    let a = c.args in
    let p = c.reduce-b in
    let l = c.loop-b in
    let r = c.reduce-a in
    let q = c.reduce-b-in-loop-b in (
      l.invariant.0,
      loop_next a.field a.n a.least a.s.now a.w.now (a.n + 1) p.new.s p.new.w p.result l.invariant.1 c.loop-b-test.true
          r.ensures.reduced r.auto.s r.auto.w (omega (arith, c.if-a-least.false)) q.ensures.reduced q.ensures.ends q.auto.s q.auto.w,
    )

pub finish-requires-2 : goal.finish-requires-2
finish-requires-2 c =
    let l = c.loop-b in
    let long : length (take c.args.least l.t) ≡ c.args.least = length-take-le c.args.least l.t (omega (arith, l.invariant.1.long_t, c.requires.s_len.1.1)) in record {
      width = (omega (arith, l.invariant.1.width_v, c.requires.s_len.1.1), omega (arith, long, l.invariant.0, l.invariant.1.width_v, c.requires.s_len.1.1, c.requires.out_nonzero.1));
      elements = all_take (λ x. (laws c.args.field).reduce x ≡ x) c.args.least l.t l.invariant.1.stage.elements_t;
    }

pub shape_of-s : goal.shape_of-s
shape_of-s c = c.loop-b.invariant.1.long_s ∙ sym c.requires.s_len.0

pub shape_of-w : goal.shape_of-w
shape_of-w c = c.loop-b.invariant.1.width_w ∙ sym c.requires.reducible.width_v

pub shape_of-t : goal.shape_of-t
shape_of-t c =
    begun_long c.loop-b.t c.finish-2.new.s c.args.least (omega (arith, c.loop-b.invariant.1.long_t, c.requires.s_len.1.1)) c.finish-2.auto.s ∙ c.loop-b.invariant.1.long_t ∙ sym c.requires.s_len.1.0

pub shape_of-v : goal.shape_of-v
shape_of-v c = c.loop-b.invariant.1.width_v ∙ sym c.requires.reducible.width_w

pub shape_of-out : goal.shape_of-out
shape_of-out c = c.finish-2.auto.out ∙ c.loop-b.invariant.0

pub returns : goal.returns
unfolding field_of prime_field
returns c =
    let a = c.args in
    let q = c.reduce-b in
    let l = c.loop-b in
    let f = c.finish-2 in
    let divided = subst (λ (m : ℕ). Divided a.field l.v (take a.least l.t) m f.result f.new.out) l.invariant.0 f.ensures in record {
      decodes = ended_at a.field a.n a.least a.s.now a.w.now a.t.now a.v.now l.t l.v l.b l.s l.w l.a (length a.out.now) f.result f.new.out
          (omega (arith, l.invariant.1.from, c.loop-b-test.false)) (turned (field_of a.field) (laws a.field) l.invariant.1.stage) (omega (arith, l.invariant.1.long_t, c.requires.s_len.1.1))
          l.invariant.1.width_v
          (λ x y m k. let o = before_loop a.field a.n a.least a.s.now a.w.now (a.n + 1) q.new.s q.new.w q.result a.t.now a.v.now refl
          c.requires.s_len.0 c.requires.s_len.1.0 q.ensures.reduced x y m k in
          (l.invariant.1.meets x y o.0 o.1).1)
          c.requires.s_len.1.1 c.requires.out_nonzero.0 c.requires.out_nonzero.1 divided;
      of_elements = divided.elements;
    }
