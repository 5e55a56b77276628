use native.Mathlib.Omega.{arith}
use mathlib.Core.Path.{◌≡◌}
use lib.ListN.{length, take}
use lib.Seq.{length-take-le}
use Rattle.definition.specs.Field.{field_of, prime_field}
use Rattle.decoder.proofs.Rounds.{reduce_start, cancel_turn, reduce_end, top_found, top_inverts}
use Rattle.decoder.proofs.Turns.{topped_front}
use Rattle.decoder.proofs.reduce.Goals as goal

pub returns-in_default : goal.returns-in_default
returns-in_default c = absurd (top_inverts c.args.field c.args.n c.args.least c.args.s.now c.args.w.now c.args.from c.args.t.now c.args.v.now c.args.b c.requires c.inv-inversion.ensures c.in_default.is)

pub loop-a-init : goal.loop-a-init
loop-a-init c =
    let a = c.args in
    reduce_start a.field a.n a.least a.s.now a.w.now a.from a.t.now a.v.now a.b c.requires

pub cancel_top-requires : goal.cancel_top-requires
cancel_top-requires c =
    let l = c.loop-a in
    let h = c.requires in
    let t = c.loop-a-test.true in
    let m = l.invariant.1.1.most in record { b_nonzero = (omega (arith, h.below), (t, (omega (arith, m, h.most), h.small))); a_in_bounds = (omega (arith, m, l.invariant.0, h.room_s), (h.room_t, (omega (arith, h.below, l.invariant.1.0, h.width_w), omega (arith, h.below, t, h.width_v)))) }

pub loop-a-preserved : goal.loop-a-preserved
unfolding field_of prime_field
loop-a-preserved c =
    let l = c.loop-a in
    let a = c.args in
    let p = c.cancel_top in
    cancel_turn a.field a.n a.least a.s.now a.w.now a.from a.t.now a.v.now a.b c.requires l.s l.w l.a l.invariant c.loop-a-test.true
    (top_found a.field a.n a.least a.s.now a.w.now a.from a.t.now a.v.now a.b c.requires c.inv-inversion.ensures c.in-Some.is) p.ensures.s_after p.ensures.w_after p.auto.s p.auto.w

pub top_of-requires : goal.top_of-requires
top_of-requires c =
    let l = c.loop-a in
    let long : length (take l.a l.s) ≡ l.a = length-take-le l.a l.s (omega (arith, l.invariant.0, l.invariant.1.1.most, c.requires.room_s)) in
    omega (arith, l.invariant.1.1.from)

pub returns : goal.returns
returns c =
    let l = c.loop-a in
    let a = c.args in let both = reduce_end a.field a.n a.least a.s.now a.w.now a.from a.t.now a.v.now a.b c.requires l.s l.w l.a l.invariant (omega (arith, c.loop-a-test.false))
    (topped_front l.s a.least l.a (omega (arith, l.invariant.0, l.invariant.1.1.most, c.requires.room_s)) c.top_of.ensures) in record { reduced = both.0; ends = both.1 }
