use Prim.Native.Nat.{ℕ}
use mathlib.Core.List.{List}
use lib.ListN.{get_or}
use Rattle.definition.specs.Field.{Field}
use Rattle.list_laws.specs.Filled.{FilledOver}
use Rattle.root_quotients.proofs.numerators.Given as goal

-- the numerator of value i
abbrev pub numerator_at : {A : Type 0} → Field A → List A → List A → List A → ℕ → A
numerator_at F low g values i = F.◌⊗◌ (F.◌⊖◌ (get_or values i F.𝟘) (get_or low i F.𝟘)) (get_or g i F.𝟘)

-- the first m values are numerators
abbrev pub invariant-loop-m : goal.invariant-loop-m
invariant-loop-m g l =
    let A = g.A.Arithmetic in
    let F = A.over l.a in
    let old = A.elements l.initial.values in
    FilledOver F.𝟘 (numerator_at F (A.elements l.low) (A.elements l.g) old) old (A.elements l.values) l.m
