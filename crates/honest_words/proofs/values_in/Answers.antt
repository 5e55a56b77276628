use native.Mathlib.Omega.{arith}
use Prim.Native.Nat.{ℕ, ◌-◌}
use mathlib.Core.Path.{◌≡◌, sym, ap, ◌∙◌, subst}
use mathlib.Core.List.{map}
use lib.ListN.{drop}
use Rattle.definition.specs.Polynomial.{evaluate}
use Rattle.honest_words.proofs.Filling.{fill_start, fill_turn, fill_end, even_by}
use Rattle.honest_words.proofs.values_in.Goals as goal

pub loop-i-init : goal.loop-i-init
loop-i-init g c =
    let A = g.A.Arithmetic in
    let a = c.args in
    let out = A.elements a.out.now in
    let xs = A.elements a.xs.now in
    let value = evaluate (A.over a.a) (A.elements a.g.now) in
    subst (λ (m : ℕ). drop m out ≡ map value (drop m xs)) (sym c.count-i.ensures) (fill_start value xs out c.requires)

pub loop-i-preserved : goal.loop-i-preserved
loop-i-preserved g c =
    let A = g.A.Arithmetic in
    let F = A.over c.args.a in
    let a = c.args in
    let l = c.loop-i in
    let value = evaluate F (A.elements a.g.now) in
    ap (drop (l.i - 1)) c.put.ensures
    ∙ fill_turn value (A.elements a.xs.now) F.𝟘 (A.elements l.out) l.i (omega arith) (omega (arith, c.count-i.ensures))
    (even_by A.elements A.width g.met.A.Arithmetic.counted l.out a.out.now l.auto.out ∙ c.requires) l.invariant
    (c.value_at-value.ensures ∙ ap value c.get.ensures)

pub returns : goal.returns
returns g c =
    let A = g.A.Arithmetic in
    let a = c.args in
    fill_end (evaluate (A.over a.a) (A.elements a.g.now)) (A.elements a.xs.now) (A.elements c.loop-i.out) c.loop-i.i (omega arith) c.loop-i.invariant
