use Prim.Native.Nat.{ℕ, ◌+◌, ◌-◌, ◌<◌}
use native.Mathlib.Omega.{arith}
use mathlib.Core.Path.{◌≡◌, sym, ap, ◌∙◌}
use mathlib.Core.List.{[], ◌∷◌}
use lib.ListN.{length, take, drop, get_or}
use Rattle.definition.specs.Polynomial.{divide, quotient}
use Rattle.division.specs.BackToFront.{drop_one}
use Rattle.correction.proofs.Division.{quotient_one, quotient_turn, quotient_end}
use Rattle.correction.proofs.divide_each.Goals as goal

pub loop-i-init : goal.loop-i-init
loop-i-init g c =
    let A = g.A.Arithmetic in
    let a = c.args in
    let all : a.count - (a.from - a.from) ≡ a.count = omega arith in
    ap (λ (n : ℕ). quotient (A.over a.a) (take n (A.elements a.f.now)) (drop a.from (A.elements a.xs.now))) all

pub loop-i-preserved : goal.loop-i-preserved
loop-i-preserved g c =
    let A = g.A.Arithmetic in
    let F = A.over c.args.a in
    let a = c.args in
    let l = c.loop-i in
    let xs = A.elements a.xs.now in
    let x = get_or xs l.i F.𝟘 in
    let n = a.count - (l.i - a.from) in
    let m = a.count - (l.i + 1 - a.from) in
    let f = A.elements l.f in
    let f' = A.elements c.divide.new.f in
    let less : m ≡ n - 1 = omega arith in
    let h : l.i < length xs = omega (arith, c.count-i-end.ensures) in
    quotient_turn F (x ∷ []) xs f f' l.i (l.i + 1) n m (drop_one xs F.𝟘 l.i h) l.invariant
    (ap (λ (k : ℕ). take k f') less ∙ c.divide.ensures ∙ ap (divide F (take n f)) c.get.ensures ∙ sym (quotient_one F (take n f) x))

pub returns : goal.returns
returns g c =
    let A = g.A.Arithmetic in
    let a = c.args in
    let l = c.loop-i in
    let xs = A.elements a.xs.now in
    quotient_end (A.over a.a) xs (A.elements l.f) l.i (a.count - (l.i - a.from)) (a.count - (length xs - a.from)) (omega (arith, c.count-i-end.ensures)) (omega (arith, c.count-i-end.ensures)) l.invariant
