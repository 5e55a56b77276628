use Prim.Native.Nat.{ℕ, ◌+◌, ◌-◌}
use native.Mathlib.Omega.{arith}
use mathlib.Core.Path.{◌≡◌, sym, ap, ◌∙◌}
use lib.ListN.{get_or}
use Rattle.decoder.proofs.Turns.{noughts_next}
use Rattle.decoder.proofs.top_of.Goals as goal

pub loop-i-init : goal.loop-i-init
loop-i-init c = λ i l u. absurd (omega arith)

pub returns-then-s-i-ne0 : goal.returns-then-s-i-ne0
returns-then-s-i-ne0 c =
    let l = c.loop-i in
    let same : l.i - 1 + 1 - 1 ≡ l.i - 1 = omega arith in
    record { low = omega arith; high = omega arith; noughts = λ i h u. l.invariant i (omega arith) u; top = λ _ z. c.if-s-i-ne0.true (ap (λ (j : ℕ). get_or c.args.s.now j 0) (sym same) ∙ z) }

pub loop-i-preserved : goal.loop-i-preserved
loop-i-preserved c = noughts_next c.args.s.now c.loop-i.i (omega arith) c.loop-i.invariant c.if-s-i-ne0.false

pub returns : goal.returns
returns c = record { low = omega arith; high = omega arith; noughts = λ i h u. c.loop-i.invariant i (omega arith) u; top = λ g z. absurd (omega arith) }
