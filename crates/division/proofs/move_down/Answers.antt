use Prim.Native.Nat.{ℕ, ◌+◌, ◌-◌}
use native.Mathlib.Omega.{arith}
use mathlib.Core.Path.{◌≡◌, ◌∙◌, subst}
use lib.ListN.{length, drop, get_or, length-drop}
use lib.Seq.{take_all}
use Rattle.list_laws.specs.Filled.{Filled, filled_first, filled_next}
use Rattle.division.proofs.Dividing.{moved}
use Rattle.division.proofs.move_down.Goals as goal

pub loop-i-init : goal.loop-i-init
loop-i-init c =
    let a = c.args in
    filled_first (λ m. get_or a.f.now (a.e + m) 0) a.f.now

pub loop-i-preserved : goal.loop-i-preserved
loop-i-preserved c =
    let l = c.loop-i in
    let a = c.args in
    filled_next (λ m. get_or a.f.now (a.e + m) 0) a.f.now l.f l.i l.invariant (omega arith) (l.invariant.left (a.e + l.i) (omega arith))

pub returns : goal.returns
returns c =
    let l = c.loop-i in
    let a = c.args in
    let n = length a.f.now - a.e in
    let all : l.i ≡ n = omega arith in
    moved 0 a.f.now l.f a.e n (omega arith) (subst (λ (n : ℕ). Filled (λ m. get_or a.f.now (a.e + m) 0) a.f.now l.f n) all l.invariant)
    ∙ take_all n (drop a.e a.f.now) (omega (arith, length-drop a.e a.f.now))
