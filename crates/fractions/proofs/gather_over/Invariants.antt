use Prim.Native.Nat.{◌+◌, ◌*◌}
use lib.ListN.{get_or}
use Rattle.list_laws.specs.Filled.{FilledOver}
use Rattle.fractions.proofs.gather_over.Given as goal

abbrev pub invariant-loop-m : goal.invariant-loop-m
invariant-loop-m g l =
    let A = g.A.Arithmetic in
    let z = (A.over l.a).𝟘 in
    FilledOver z (λ i. get_or (A.elements l.table) (l.j + l.step * i) z) (A.elements l.initial.values) (A.elements l.values) l.m
