use mathlib.Core.Path.{◌≡◌, refl, ◌∙◌}
use Rattle.hash_laws.specs.Ring.{early_next, Turned, going_begins, going_at, going_ends}
use Rattle.compression.specs.Meaning.{state_of}
use native.Mathlib.Omega.{arith}
use Rattle.compression.proofs.rounds.Goals as goal

pub loop-t-init : goal.loop-t-init
loop-t-init c = refl

pub loop-t-preserved : goal.loop-t-preserved
loop-t-preserved c =
    let l = c.loop-t in
    early_next c.args.k.now c.args.w.now (state_of l.v) l.t c.requires.0 c.requires.1 (omega arith) c.turn-v.ensures l.invariant

pub loop-q-init : goal.loop-q-init
loop-q-init c = going_begins c.args.k.now c.args.w.now (state_of c.loop-t.v) c.requires.1 refl

pub loop-q-preserved : goal.loop-q-preserved
unfolding Turned
loop-q-preserved c = going_at (omega arith) (c.four-v.ensures c.args.w.now _ c.requires.1 c.loop-q.invariant)

pub returns : goal.returns
returns c =
    let e : c.loop-t.t ≡ 16 = omega arith in
    going_ends c.requires.0 (omega arith) c.loop-q.invariant ∙ (rw e at c.loop-t.invariant)
