use mathlib.Core.Path.{◌≡◌}
use mathlib.Core.List.{◌∷◌}
use lib.ListN.{take, get_or}
use Rattle.definition.specs.Polynomial.{mul_poly, geometric}
use Rattle.correction.proofs.correct.Given as goal

abbrev pub invariant-loop-i : goal.invariant-loop-i
invariant-loop-i g l =
    let A = g.A.Arithmetic in
    let F = A.over l.a in
    let p = mul_poly F (A.elements l.q) (geometric F (A.value l.c) l.e) in
    (take l.i (A.elements l.out) ≡ take l.i p) × (A.value l.last ≡ get_or (F.𝟘 ∷ p) l.i F.𝟘)
