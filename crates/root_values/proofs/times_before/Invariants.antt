use Prim.Native.Nat.{ℕ}
use mathlib.Core.Path.{◌≡◌}
use mathlib.Core.List.{List}
use lib.ListN.{get_or}
use Rattle.definition.specs.Field.{Field}
use Rattle.list_laws.specs.Filled.{FilledOver}
use Rattle.root_values.specs.Dividing.{product_before}
use Rattle.root_values.proofs.times_before.Given as goal

-- numerator i times the denominators before its own
abbrev pub timesAt : {A : Type 0} → Field A → List A → List A → ℕ → A
timesAt F bottoms tops i = F.◌⊗◌ (get_or tops i F.𝟘) (product_before F bottoms i)

-- the first m numerators are products, and the product of the first m denominators is at hand
abbrev pub invariant-loop-m : goal.invariant-loop-m
invariant-loop-m g l =
    let A = g.A.Arithmetic in
    let F = A.over l.a in
    let old = A.elements l.initial.tops in
    let w = A.elements l.bottoms in
    FilledOver F.𝟘 (timesAt F w old) old (A.elements l.tops) l.m × (A.value l.all ≡ product_before F w l.m)
