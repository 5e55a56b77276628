use Rattle.std.proofs.Common.{◌≡◌, length}
use Rattle.list_laws.specs.Filled.{FilledOver}
use Rattle.differences.proofs.fill_elements.Given as goal

abbrev pub invariant-loop-i : goal.invariant-loop-i
invariant-loop-i g l =
    let A = g.A.Arithmetic in
    (length l.out ≡ length l.initial.out) × FilledOver (A.over l.a).𝟘 (λ _. A.value l.c) (A.elements l.initial.out) (A.elements l.out) l.i
