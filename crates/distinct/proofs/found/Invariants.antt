use mathlib.Core.Path.{◌≡◌}
use lib.ListN.{drop}
use Rattle.definition.specs.Lists.{member}
use Rattle.distinct.proofs.found.Given as goal

abbrev pub invariant-loop-i : goal.invariant-loop-i
invariant-loop-i g l =
    let A = g.A.Arithmetic in
    let equal = (A.over l.a).equal in
    member equal (A.value l.x) (drop l.i (A.elements l.xs)) ≡ member equal (A.value l.x) (drop l.from (A.elements l.xs))
