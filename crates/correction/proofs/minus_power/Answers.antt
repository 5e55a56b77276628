use Prim.Native.Nat.{◌+◌}
use native.Mathlib.Numerals.{add-one}
use mathlib.Core.Path.{sym, ap, ◌∙◌}
use Rattle.definition.specs.Polynomial.{evaluate, geometric}
use Rattle.correction.proofs.Recurrence.{minus_is}
use Rattle.correction.proofs.minus_power.Goals as goal

pub returns : goal.returns
returns g c =
    let A = g.A.Arithmetic in
    let a = c.args in
    let F = A.over a.a in
    let x = A.value a.c in
    let one = c.one-one.ensures in
    minus_is F (A.laws a.a) x a.e (a.e + 1) (sym (add-one a.e))
    (c.sub-2.ensures ∙ ap (λ u. F.◌⊖◌ (A.value c.mul.result) u) one)
    c.mul.ensures
    (c.sub.ensures ∙ ap (λ u. F.◌⊖◌ u x) one)
    (c.geometric_at-sum.ensures ∙ ap (evaluate F (geometric F x a.e)) one)
